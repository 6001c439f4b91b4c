use Rattle.std.proofs.Common.{arith}
use Rattle.std.proofs.lemmas.Int.{ints}
use Rattle.linear_prop.proofs.Falling.{part_above}
use Rattle.linear_prop.proofs.fall.values_above.Goals as goal

pub returns-clause-values : goal.returns-clause-values
returns-clause-values c v =
    let more = c.next.ensures in
    part_above c.args.set.now c.in_ok-s.s c.from_to-part.result c.next.result.value c.high_end-high.result.value c.args.to.value v c.ranges-2.ensures.valid
    c.high_end-high.ensures.value (omega (arith, ints)) (c.in_ok-s.ensures.values v) (c.from_to-part.ensures.values v)
