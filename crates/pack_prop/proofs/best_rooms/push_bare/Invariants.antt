use Rattle.std.proofs.Common.{◌≡◌, ◌+ℤ◌, ◌-ℤ◌, ◌≤ℤ◌, [], pos, length, unsigned_abs}
use Rattle.signed_clause.specs.Clauses.{Boxes}
use Rattle.pack_prop.specs.Tight.{AreBestRooms}
use Rattle.pack_prop.proofs.best_rooms.push_bare.Given as goal

abbrev pub invariant-loop-at : goal.invariant-loop-at
invariant-loop-at l = record {
  rooms : (boxes : Boxes) → AreBestRooms l.fn.first.value l.rows.items [] boxes;
  upto : l.fn.first.value +ℤ pos (length l.rows.items) ≡ l.at.value;
  order : l.at.value ≤ℤ l.last.value;
}

abbrev pub decreases-loop-at : goal.decreases-loop-at
decreases-loop-at l = unsigned_abs (l.last.value -ℤ l.at.value)
