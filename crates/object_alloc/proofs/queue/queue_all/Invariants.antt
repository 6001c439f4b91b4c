use Rattle.std.proofs.Common.{◌≡◌, ◌-◌, ◌≤◌, length}
use Rattle.std.specs.List.{sum_by}
use Rattle.model_limits.specs.Limits.{most_objects}
use Rattle.object_alloc.specs.Holding.{AreHolding}
use Rattle.object_alloc.specs.Sums.{Weigh, of_object, IsLawful}
use Rattle.object_alloc.specs.Walk.{objects}
use Rattle.object_alloc.proofs.QueueSteps.{balance}
use Rattle.object_alloc.proofs.queue.queue_all.Given as goal

-- what was looked at, and the subtrees of the rest, are all objects
abbrev pub invariant-loop-head : goal.invariant-loop-head
invariant-loop-head l =
    record {
      total : (g : Weigh) → balance l.table g l.head l.queue.items ≡ sum_by (of_object g) (objects l.table);
      lawful : IsLawful (length l.table.classes) 1 l.queue.items;
      few : length l.queue.items ≤ most_objects;
      within : l.head ≤ length l.queue.items;
      lists : AreHolding l.table l.lists.items;
      size : length l.lists.items ≡ length l.table.classes;
    }

abbrev pub decreases-loop-head : goal.decreases-loop-head
decreases-loop-head l = 10001 - l.head
