use Rattle.std.proofs.Common.{◌≡◌, length}
use Rattle.clause_watches.specs.Sound.{IsSound}
use Rattle.clause_watches.specs.Looking.{AreKnownNow, left_in}
use Rattle.clause_watches.proofs.search.find_acting.Given as goal

abbrev pub invariant-loop-i : goal.invariant-loop-i
invariant-loop-i l = record {
  sound : IsSound l.table;
  added : l.table.added ≡ l.initial.table.added;
  count : length l.table.rows.items ≡ length l.initial.table.rows.items;
  changed : l.table.changed ≡ l.initial.table.changed;
  known : AreKnownNow l.boxes l.table.added.items l.table.rests;
}

abbrev pub decreases-loop-i : goal.decreases-loop-i
decreases-loop-i l = left_in l.table.rests
