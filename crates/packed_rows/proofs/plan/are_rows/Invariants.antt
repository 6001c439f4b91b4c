use Rattle.std.proofs.Common.{take}
use Rattle.std.specs.List.{All}
use Rattle.packed_rows.specs.Plans.{IsRowOf}
use Rattle.packed_rows.proofs.plan.are_rows.Given as goal

abbrev pub invariant-loop-row : goal.invariant-loop-row
invariant-loop-row l = All (IsRowOf l.boxes l.items l.most.value) (take l.row-index l.rows)
