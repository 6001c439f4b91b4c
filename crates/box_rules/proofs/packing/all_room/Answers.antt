use Rattle.std.proofs.Common.{ℤ, ap, arith}
use Rattle.std.proofs.lemmas.Int.{ints}
use Rattle.box_rules.proofs.packing.all_room.Goals as goal

pub rooms_between-requires-clause-order : goal.rooms_between-requires-clause-order
rooms_between-requires-clause-order g c =
    let low = ap (λ (p : ℤ × ℤ). p.0) c.ends-ends.ensures.ends in let high = ap (λ (p : ℤ × ℤ). p.1) c.ends-ends.ensures.ends in
    omega (arith, ints, low, high, c.ends-ends.ensures.order, c.first_bin-first.ensures.order, c.last_bin-last.ensures.order)
