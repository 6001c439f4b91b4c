use Rattle.std.proofs.Common.{◌≡◌, ◌≤◌, drop, length}
use Rattle.pack_prop.specs.RoomRows.{HasRooms}
use Rattle.pack_prop.specs.Sources.{with_part}
use Rattle.pack_prop.proofs.room_row.add_items.Given as goal

abbrev pub invariant-loop-k : goal.invariant-loop-k
invariant-loop-k l = record {
  size : length l.row ≡ length l.fn.row;
  behind : HasRooms l.row l.first.value (drop l.k l.tried.items.now) (with_part l.tried.boxes.now l.tried.x l.tried.part.now);
  upto : l.k ≤ length l.tried.items.now;
}

abbrev pub decreases-loop-k : goal.decreases-loop-k
decreases-loop-k l = l.k
