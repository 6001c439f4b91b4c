use Rattle.std.proofs.Common.{◌≡◌, ◌<◌, ◌≤◌, ◌+ℤ◌, ℕ, pos, drop, length, slice_index_or}
use Rattle.signed_clause.specs.Ranges.{has}
use Rattle.pack_prop.specs.RoomRows.{lifted}
use Rattle.pack_prop.proofs.room_row.lift_ranges.Given as goal

abbrev pub invariant-loop-j : goal.invariant-loop-j
invariant-loop-j l = record {
  size : length l.row ≡ length l.fn.row;
  row : (e : ℕ) → e < length l.fn.row → slice_index_or l.row e (pos 0, pos 0) ≡ lifted (has (drop l.j l.ranges) (l.first.value +ℤ pos e)) l.high.value (slice_index_or l.fn.row e (pos 0, pos 0));
  upto : l.j ≤ length l.ranges;
}

abbrev pub decreases-loop-j : goal.decreases-loop-j
decreases-loop-j l = l.j
