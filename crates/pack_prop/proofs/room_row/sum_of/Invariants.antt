use Rattle.std.proofs.Common.{◌≡◌, ◌+ℤ◌, ◌≤ℤ◌, ◌*◌, pos, drop}
use Rattle.pack_prop.specs.RoomRows.{row_sum}
use Rattle.pack_prop.proofs.room_row.sum_of.Given as goal

abbrev pub invariant-loop-p : goal.invariant-loop-p
invariant-loop-p l = record {
  value : l.sum.value +ℤ row_sum (drop l.p-index l.row) ≡ row_sum l.row;
  low : pos 0 ≤ℤ (l.sum.value +ℤ pos (l.p-index * 9223372036854775808));
  high : l.sum.value ≤ℤ pos (l.p-index * 9223372036854775807);
}
