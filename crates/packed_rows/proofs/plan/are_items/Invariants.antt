use Rattle.std.proofs.Common.{◌≡◌, ℤ, List, take}
use Rattle.std.specs.List.{All}
use Rattle.signed_clause.specs.Ranges.{has}
use Rattle.packed_rows.specs.declared.row.Row.{Row}
use Rattle.packed_rows.specs.Plans.{is_bin, IsItem}
use Rattle.packed_rows.proofs.plan.are_items.Given as goal

abbrev pub invariant-loop-item : goal.invariant-loop-item
invariant-loop-item l = (rows : List Row) → ((v : ℤ) → has l.bins v ≡ is_bin rows v) → All (IsItem l.boxes rows) (take l.item-index l.items)
