use Rattle.std.proofs.Common.{◌≡◌, ◌≤◌, ◌++◌, length, drop}
use Rattle.model_limits.specs.Limits.{most_objects}
use Rattle.object_alloc.specs.Sums.{kinds_of}
use Rattle.object_alloc.specs.Variables.{variables}
use Rattle.object_alloc.proofs.queue.push_members.Given as goal

-- with what the other variables hold it is what all hold
abbrev pub invariant-loop-k : goal.invariant-loop-k
invariant-loop-k l =
    record {
      queue : l.queue.items ++ kinds_of l.depth (drop l.k (variables l.table l.class)) ≡ l.initial.queue.items ++ kinds_of l.depth (variables l.table l.class);
      few : length l.queue.items ≤ most_objects;
    }
