use Rattle.std.proofs.Common.{◌≡◌, ◌<◌, ◌&&◌, ℕ, pos, length, nat_lt, slice_index_or}
use Rattle.pack_prop.specs.Spans.{is_in}
use Rattle.pack_prop.specs.RoomRows.{lifted}
use Rattle.pack_prop.proofs.room_row.lift_span.Given as goal

abbrev pub invariant-loop-e : goal.invariant-loop-e
invariant-loop-e l = record {
  size : length l.row ≡ length l.fn.row;
  row : (k : ℕ) → k < length l.fn.row → slice_index_or l.row k (pos 0, pos 0) ≡ lifted (is_in l.fn.span k && nat_lt k l.e) l.high.value (slice_index_or l.fn.row k (pos 0, pos 0));
}
