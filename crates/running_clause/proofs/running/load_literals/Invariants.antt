use Rattle.std.proofs.Common.{◌≡◌, drop, length}
use Rattle.running_clause.specs.Running.{loaded, IsTable}
use Rattle.running_clause.proofs.running.load_literals.Given as goal

abbrev pub invariant-loop-m : goal.invariant-loop-m
invariant-loop-m l = record {
  list : loaded l.sets.items (drop l.m-index l.a) ≡ loaded l.initial.sets.items l.a;
  table : IsTable l.initial.sets.items l.initial.used.items → IsTable l.sets.items l.used.items;
  len : length l.sets.items ≡ length l.initial.sets.items;
}
