use Rattle.std.proofs.Common.{◌≡◌, ◌&&◌, ℤ, subst}
use Rattle.signed_clause.specs.Ranges.{Ranges, has}
use Rattle.stated_sets.proofs.JoinedSets.{stated_both}
use Rattle.stated_sets.proofs.joined.common.Goals as goal

pub returns : goal.returns
returns c =
    let l = c.args.l.now in
    let both = subst (λ (z : Ranges). (v : ℤ) → has c.in_ok-set.set v ≡ (has z v && has l.1 v)) c.set_at.ensures c.in_ok-set.ensures.values in
    stated_both c.args.maker.now c.args.sets.now l c.in_ok-set.set c.requires.sets c.requires.there c.requires.literal both
