use Rattle.std.proofs.Common.{ℤ, pos, ◌^◌, ◌≤ℤ◌, arith}
use Rattle.std.specs.Int.{int_max, int_min}
use Rattle.std.proofs.lemmas.Int.{ints, clamps}
use Rattle.form_build.specs.Forms.{truth_at}
use Rattle.form_build.specs.Sums.{least_linear, greatest_linear, LiesFrom}
use Rattle.form_build.proofs.Growth.{world_before, defines_more}
use Rattle.form_build.proofs.Keeping.{linear_kept}
use Rattle.form_build.proofs.Linears.{sum_wider}
use Rattle.form_truths.proofs.NumberTerms.{ends_kept, wider_least, wider_greatest}
use Rattle.form_truths.proofs.products.times_truth.Goals as goal

pub returns-then-is_number-clause-value : goal.returns-then-is_number-clause-value
returns-then-is_number-clause-value c a w = c.in_ok-r.ensures.value a (truth_at c.args.t.now a) w (c.in_ok-flag.ensures.flag.value a w)

pub returns-then-is_number-clause-sum : goal.returns-then-is_number-clause-sum
returns-then-is_number-clause-sum c =
    let ends = ends_kept c.args.m.now c.flag_of.new.m c.args.f.now c.in_ok-flag.ensures.adds.grows c.requires.linear.terms in
    sum_wider _ _ _ _ _ c.in_ok-r.r (wider_least _ _ ends.low_is) (wider_greatest _ _ ends.high_is) c.in_ok-r.ensures.sum

pub counted-requires-clause-linear : goal.counted-requires-clause-linear
counted-requires-clause-linear c = linear_kept (2 ^ 58) c.args.m.now c.flag_of.new.m c.args.f.now c.in_ok-flag.ensures.adds.grows c.requires.linear

pub counted-requires-clause-low : goal.counted-requires-clause-low
counted-requires-clause-low c =
    let ends = ends_kept c.args.m.now c.flag_of.new.m c.args.f.now c.in_ok-flag.ensures.adds.grows c.requires.linear.terms in
    omega (arith, ints, ends.low_is, c.requires.low)

pub counted-requires-clause-high : goal.counted-requires-clause-high
counted-requires-clause-high c =
    let ends = ends_kept c.args.m.now c.flag_of.new.m c.args.f.now c.in_ok-flag.ensures.adds.grows c.requires.linear.terms in
    omega (arith, ints, ends.high_is, c.requires.high)

pub returns-clause-value : goal.returns-clause-value
returns-clause-value c a w =
    c.in_ok-r-2.ensures.value a (truth_at c.args.t.now a) w (c.in_ok-flag.ensures.flag.value a (world_before c.flag_of.new.m c.counted.new.m a c.in_ok-r-2.ensures.adds.grows w))

pub returns-clause-sum : goal.returns-clause-sum
returns-clause-sum c =
    let ends = ends_kept c.args.m.now c.flag_of.new.m c.args.f.now c.in_ok-flag.ensures.adds.grows c.requires.linear.terms in
    sum_wider _ _ _ _ _ c.in_ok-r-2.r (wider_least _ _ ends.low_is) (wider_greatest _ _ ends.high_is) c.in_ok-r-2.ensures.sum

pub returns-clause-adds : goal.returns-clause-adds
returns-clause-adds c = defines_more c.args.m.now c.flag_of.new.m c.counted.new.m c.in_ok-flag.ensures.adds c.in_ok-r-2.ensures.adds
