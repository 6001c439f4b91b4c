use Rattle.std.proofs.Common.{◌≡◌, ◌≤◌, ◌++◌, drop, length}
use Rattle.std.specs.Vec.{vec_capacity, vec_len}
use Rattle.running_clause.specs.Running.{listed, AreNoted}
use Rattle.running_clause.proofs.running.move_literals.Given as goal

abbrev pub invariant-loop-x : goal.invariant-loop-x
invariant-loop-x l = record {
  list : l.out.items ++ listed 0 l.sets.items ≡ listed 0 l.initial.sets.items;
  noted : AreNoted l.sets.items (drop l.x-index l.used);
  len : length l.sets.items ≡ length l.initial.sets.items;
  count : vec_len l.out ≤ l.x-index;
  room : length l.used ≤ vec_capacity l.out;
}
