use Rattle.std.proofs.Common.{◌≡◌, ◌++◌, drop, length}
use Rattle.object_alloc.specs.Laying.{cells_of}
use Rattle.object_alloc.specs.Listed.{AreExtents}
use Rattle.object_alloc.proofs.cells.cells_of_leaves.Given as goal

abbrev pub invariant-loop-leaf : goal.invariant-loop-leaf
invariant-loop-leaf l =
    record {
      cells : l.cells.items ++ cells_of l.laid.table.now (drop l.leaf-index l.leaves) ≡ cells_of l.laid.table.now l.leaves;
      lists : AreExtents l.laid.table.now.classes l.laid.objects.now l.lists.items;
      size : length l.lists.items ≡ length l.laid.table.now.classes;
    }
