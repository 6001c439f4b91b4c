use Rattle.std.proofs.Common.{pos, ◌≤ℤ◌, ◌<ℤ◌, arith}
use Rattle.std.proofs.lemmas.Int.{ints}
use Rattle.ground_form.specs.Bounds.{low_of, high_of}
use Rattle.box_view.proofs.EndLaws.{ends_in_order}
use Rattle.linear_prop.proofs.Products.{above_low_end, below_high_end}
use Rattle.linear_prop.proofs.Falling.{under_positive, under_negative}
use Rattle.linear_prop.proofs.fall.values_under.Goals as goal

pub values_above-requires-clause-high : goal.values_above-requires-clause-high
values_above-requires-clause-high c =
    let below : c.args.c.value <ℤ pos 0 = grind (arith, ints) in
    below_high_end c.args.c.value (low_of c.args.set.now) (high_of c.args.set.now) c.args.to.value (ends_in_order c.args.set.now c.ranges-2.ensures.valid) below c.requires.least

pub values_below-requires-clause-low : goal.values_below-requires-clause-low
values_below-requires-clause-low c =
    let least : pos 0 ≤ℤ c.args.c.value = grind (arith, ints) in
    above_low_end c.args.c.value (low_of c.args.set.now) (high_of c.args.set.now) c.args.to.value (ends_in_order c.args.set.now c.ranges-2.ensures.valid) least c.requires.least

pub returns-in_ok-s : goal.returns-in_ok-s
returns-in_ok-s c =
    let below : c.args.c.value <ℤ pos 0 = grind (arith, ints) in
    under_negative c.args.c.value c.args.to.value c.args.set.now c.in_ok-s.s c.ranges-2.ensures.valid c.requires.some below c.requires.least c.in_ok-s.ensures.valid c.in_ok-s.ensures.values

pub returns-in_ok-s-2 : goal.returns-in_ok-s-2
returns-in_ok-s-2 c =
    let least : pos 0 ≤ℤ c.args.c.value = grind (arith, ints) in
    under_positive c.args.c.value c.args.to.value c.args.set.now c.in_ok-s-2.s c.ranges-2.ensures.valid c.requires.some least c.requires.least c.in_ok-s-2.ensures.valid c.in_ok-s-2.ensures.values
