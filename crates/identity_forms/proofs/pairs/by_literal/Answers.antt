use Rattle.std.proofs.Common.{◌∙◌, sym, subst}
use Rattle.signed_clause.specs.Clauses.{Boxes}
use Rattle.form_build.specs.Forms.{truth_at}
use Rattle.form_build.specs.Worlds.{IsInBoxes}
use Rattle.form_build.proofs.Growth.{world_before}
use Rattle.identity_forms.proofs.PairLaws.{both_of}
use Rattle.identity_forms.proofs.pairs.by_literal.Goals as goal

pub returns-clause-value : goal.returns-clause-value
returns-clause-value c a w =
    let before = world_before c.args.maker.now c.truth_in_blocks.new.m a c.in_ok-failing.ensures.adds.grows w in
    both_of (truth_at c.args.s.now a) (truth_at c.args.t.now a) (truth_at c.in_ok-u.u a) (truth_at c.in_ok-failing.failing a)
    (c.in_ok-failing.ensures.value a w ∙ c.in_ok-not_both.ensures.value a before.within)
    (c.in_ok-u.ensures.value a (subst (λ (z : Boxes). IsInBoxes z a) (sym c.domains.ensures.items) w.within))
