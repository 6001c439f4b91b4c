use Rattle.std.proofs.Common.{◌^◌, take}
use Rattle.packed_rows.proofs.SmallRowLaws.{AreSmallRows}
use Rattle.packed_rows.proofs.bounds.are_bounded.Given as goal

abbrev pub invariant-loop-row : goal.invariant-loop-row
invariant-loop-row l = AreSmallRows l.boxes (take l.row-index l.rows) (2 ^ 60) l.left
