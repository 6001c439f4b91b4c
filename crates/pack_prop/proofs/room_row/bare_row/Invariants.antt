use Rattle.std.proofs.Common.{◌≡◌, []}
use Rattle.signed_clause.specs.Clauses.{Boxes}
use Rattle.pack_prop.specs.RoomRows.{best_rooms}
use Rattle.pack_prop.proofs.room_row.bare_row.Given as goal

abbrev pub invariant-loop-k : goal.invariant-loop-k
invariant-loop-k l = (boxes : Boxes) → l.row.items ≡ best_rooms l.k l.first.value [] boxes
