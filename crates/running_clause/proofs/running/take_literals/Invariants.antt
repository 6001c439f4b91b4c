use Rattle.std.proofs.Common.{◌≡◌, drop, length}
use Rattle.running_clause.specs.Running.{taken_in, IsTable}
use Rattle.running_clause.proofs.running.take_literals.Given as goal

abbrev pub invariant-loop-m : goal.invariant-loop-m
invariant-loop-m l = record {
  list : taken_in l.x l.sets.items (drop l.m-index l.b) ≡ taken_in l.x l.initial.sets.items l.b;
  table : IsTable l.initial.sets.items l.initial.used.items → IsTable l.sets.items l.used.items;
  len : length l.sets.items ≡ length l.initial.sets.items;
}
