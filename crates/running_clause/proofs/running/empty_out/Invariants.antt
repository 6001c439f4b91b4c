use Rattle.std.proofs.Common.{◌≡◌, drop, length}
use Rattle.running_clause.specs.Running.{AreNoted}
use Rattle.running_clause.proofs.running.empty_out.Given as goal

abbrev pub invariant-loop-x : goal.invariant-loop-x
invariant-loop-x l = record {
  noted : AreNoted l.sets.items (drop l.x-index l.used);
  len : length l.sets.items ≡ length l.initial.sets.items;
}
