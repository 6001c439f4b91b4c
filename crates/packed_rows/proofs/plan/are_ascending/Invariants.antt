use Rattle.std.proofs.Common.{drop}
use Rattle.packed_rows.specs.Plans.{AscendAbove}
use Rattle.packed_rows.proofs.plan.are_ascending.Given as goal

abbrev pub invariant-loop-row : goal.invariant-loop-row
invariant-loop-row l = AscendAbove l.last (drop l.row-index l.rows) → AscendAbove l.above l.rows
