use Rattle.std.proofs.Common.{arith}
use Rattle.std.proofs.lemmas.Int.{ints}
use Rattle.linear_prop.proofs.Falling.{part_below}
use Rattle.linear_prop.proofs.fall.values_below.Goals as goal

pub returns-clause-values : goal.returns-clause-values
returns-clause-values c v =
    let less = c.previous.ensures in
    part_below c.args.set.now c.in_ok-s.s c.from_to-part.result c.low_end-low.result.value c.previous.result.value c.args.to.value v c.ranges-2.ensures.valid
    c.low_end-low.ensures.value (omega (arith, ints)) (c.in_ok-s.ensures.values v) (c.from_to-part.ensures.values v)
