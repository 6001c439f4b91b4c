use Rattle.std.proofs.Common.{ℕ, ℤ, List, refl, subst}
use Rattle.std.specs.List.{All}
use Rattle.packed_rows.specs.Plans.{IsRowOf, IsItem}
use Rattle.packed_rows.proofs.plan.plan_of.Goals as goal

pub returns : goal.returns
returns c = record {
  rows_are = subst (λ (z : List (ℕ × ℤ)). All (IsRowOf c.args.boxes.now z c.greatest_room-most.result.value) c.args.rows.now) c.deref-2.ensures.value (c.if-not-are_rows.ensures refl);
  ascend = c.if-not-are_ascending.ensures refl;
  items_are = subst (All (IsItem c.args.boxes.now c.args.rows.now)) c.deref-else-not-are_ascending.ensures.value (c.if-not-are_items.ensures refl c.args.rows.now c.in_ok-bins.ensures);
  low = c.if-not-is_room.ensures.low refl;
  small = c.if-not-is_room.ensures.small refl;
}
