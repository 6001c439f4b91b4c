use Rattle.std.proofs.Common.{◌≡◌, ◌<◌, ◌≤◌, ◌+ℤ◌, ℕ, pos, drop, length, slice_index_or}
use Rattle.signed_clause.specs.Ranges.{has}
use Rattle.pack_prop.specs.declared.best_rooms.ValueRooms.{ValueRooms}
use Rattle.pack_prop.specs.Tight.{IsRaised}
use Rattle.pack_prop.proofs.best_rooms.raise_ranges.Given as goal

abbrev pub invariant-loop-j : goal.invariant-loop-j
invariant-loop-j l = record {
  size : length l.rows ≡ length l.fn.rows;
  rows : (d : ValueRooms) (e : ℕ) → e < length l.fn.rows → IsRaised (has (drop l.j l.ranges) (l.first.value +ℤ pos e)) l.more.room.value l.more.stays (slice_index_or l.fn.rows e d) (slice_index_or l.rows e d);
  upto : l.j ≤ length l.ranges;
}

abbrev pub decreases-loop-j : goal.decreases-loop-j
decreases-loop-j l = l.j
