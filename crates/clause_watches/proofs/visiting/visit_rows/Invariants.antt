use Rattle.std.proofs.Common.{◌≡◌, length}
use Rattle.clause_watches.specs.Marks.{count_marked}
use Rattle.clause_watches.specs.Sound.{IsSound, AreKnown}
use Rattle.clause_watches.proofs.visiting.visit_rows.Given as goal

abbrev pub invariant-loop-x : goal.invariant-loop-x
invariant-loop-x l = record {
  sound : IsSound l.table;
  added : l.table.added ≡ l.initial.table.added;
  count : length l.table.rows.items ≡ length l.initial.table.rows.items;
  size : length l.table.rests ≡ length l.initial.table.rests;
  known : AreKnown l.boxes l.table.added.items l.table.rests l.table.changed;
}

abbrev pub decreases-loop-x : goal.decreases-loop-x
decreases-loop-x l = count_marked l.table.changed
