use Rattle.std.proofs.Common.{◌≡◌, ℕ, length}
use Rattle.clause_watches.specs.Watching.{rest_of}
use Rattle.clause_watches.specs.Rows.{freed}
use Rattle.clause_watches.specs.Sound.{held_of, IsSound}
use Rattle.clause_watches.proofs.held.free_all.Given as goal

abbrev pub invariant-loop-i : goal.invariant-loop-i
invariant-loop-i l = record {
  sound : IsSound l.table;
  added : l.table.added ≡ l.initial.table.added;
  count : length l.table.rows.items ≡ length l.initial.table.rows.items;
  changed : l.table.changed ≡ l.initial.table.changed;
  size : length l.table.rests ≡ length l.initial.table.rests;
  rests : (j : ℕ) → freed l.x (rest_of l.table.rests j) ≡ freed l.x (rest_of l.initial.table.rests j);
}

abbrev pub decreases-loop-i : goal.decreases-loop-i
decreases-loop-i l = length (held_of l.table.held.items l.x)
