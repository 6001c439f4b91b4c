use Rattle.std.proofs.Common.{◌≡◌, ◌≤◌, drop, length}
use Rattle.pack_prop.specs.Tight.{HaveBestRooms}
use Rattle.pack_prop.proofs.best_rooms.add_items.Given as goal

abbrev pub invariant-loop-k : goal.invariant-loop-k
invariant-loop-k l = record {
  size : length l.rows ≡ length l.fn.rows;
  behind : HaveBestRooms l.rows l.first.value (drop l.k l.items) l.boxes;
  upto : l.k ≤ length l.items;
}

abbrev pub decreases-loop-k : goal.decreases-loop-k
decreases-loop-k l = l.k
