use Rattle.std.proofs.Common.{◌≡◌, length}
use Rattle.running_clause.specs.Running.{AreEmpty}
use Rattle.running_clause.proofs.running.empty_sets.Given as goal

abbrev pub invariant-loop : goal.invariant-loop
invariant-loop l = record {
  empty : AreEmpty l.sets.items;
  len : length l.sets.items ≡ l.counter;
}
