use Rattle.std.proofs.Common.{◌≡◌, ◌++◌, drop}
use Rattle.pack_prop.specs.RoomRows.{raised}
use Rattle.pack_prop.proofs.room_row.raise.Given as goal

abbrev pub invariant-loop-p : goal.invariant-loop-p
invariant-loop-p l = l.out.items ++ raised l.set l.high.value (drop l.p-index l.row) ≡ raised l.set l.high.value l.row
