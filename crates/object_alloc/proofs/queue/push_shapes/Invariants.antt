use Rattle.std.proofs.Common.{◌≡◌, ◌≤◌, ◌++◌, length, drop}
use Rattle.model_limits.specs.Limits.{most_objects}
use Rattle.object_alloc.specs.Holding.{kinds_in}
use Rattle.object_alloc.proofs.queue.push_shapes.Given as goal

-- with what the other shapes hold it is what all hold
abbrev pub invariant-loop-shape : goal.invariant-loop-shape
invariant-loop-shape l =
    record {
      queue : l.queue.items ++ kinds_in l.depth (drop l.shape-index l.shapes) ≡ l.fn.queue.items ++ kinds_in l.depth l.shapes;
      few : length l.queue.items ≤ most_objects;
    }
