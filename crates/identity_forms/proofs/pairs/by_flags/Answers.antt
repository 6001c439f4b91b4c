use Rattle.std.proofs.Common.{◌∙◌, ℕ, Bool, List, ℤ}
use Rattle.ground_build.specs.Growing.{IsFlag}
use Rattle.form_build.specs.Forms.{truth_at}
use Rattle.form_build.proofs.Flags.{flag_kept}
use Rattle.form_build.proofs.Growth.{world_before, defines_more}
use Rattle.identity_forms.proofs.PairLaws.{two_flags, of_both}
use Rattle.identity_forms.proofs.pairs.by_flags.Goals as goal

pub all_of-requires-clause-flags : goal.all_of-requires-clause-flags
all_of-requires-clause-flags c =
    let f = flag_kept c.flag_of.new.m c.flag_of-2.new.m c.in_ok-f.f (λ (a : List ℤ). truth_at c.args.s.now a) c.in_ok-g.ensures.adds.grows c.in_ok-f.ensures.flag in
    of_both (λ (p : ℕ × Bool). IsFlag c.flag_of-2.new.m p.0) c.in_ok-f.f c.in_ok-g.g f.flag c.in_ok-g.ensures.flag.flag

pub returns-clause-value : goal.returns-clause-value
returns-clause-value c a w =
    let second = world_before c.flag_of-2.new.m c.all_of.new.self a c.in_ok-all.ensures.adds.grows w in
    let first = world_before c.flag_of.new.m c.flag_of-2.new.m a c.in_ok-g.ensures.adds.grows second in
    c.is_one.ensures.value a _ (c.in_ok-all.ensures.flag.value a w)
    ∙ two_flags c.in_ok-f.f c.in_ok-g.g a (truth_at c.args.s.now a) (truth_at c.args.t.now a) (c.in_ok-f.ensures.flag.value a first) (c.in_ok-g.ensures.flag.value a second)

pub returns-clause-adds : goal.returns-clause-adds
returns-clause-adds c =
    defines_more c.args.maker.now c.flag_of-2.new.m c.all_of.new.self (defines_more c.args.maker.now c.flag_of.new.m c.flag_of-2.new.m c.in_ok-f.ensures.adds c.in_ok-g.ensures.adds) c.in_ok-all.ensures.adds
