use Rattle.std.proofs.Common.{◌≡◌, ◌<◌, ◌&&◌, ℕ, length, nat_lt, slice_index_or}
use Rattle.pack_prop.specs.declared.best_rooms.ValueRooms.{ValueRooms}
use Rattle.pack_prop.specs.Spans.{is_in}
use Rattle.pack_prop.specs.Tight.{IsRaised}
use Rattle.pack_prop.proofs.best_rooms.raise_span.Given as goal

abbrev pub invariant-loop-e : goal.invariant-loop-e
invariant-loop-e l = record {
  size : length l.rows ≡ length l.fn.rows;
  rows : (d : ValueRooms) (k : ℕ) → k < length l.fn.rows → IsRaised (is_in l.fn.span k && nat_lt k l.e) l.more.room.value l.more.stays (slice_index_or l.fn.rows k d) (slice_index_or l.rows k d);
}
