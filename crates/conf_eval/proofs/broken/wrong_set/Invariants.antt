use Rattle.std.proofs.Common.{◌≡◌, ◌+◌, drop, length}
use Rattle.std.specs.List.{flat_map}
use Rattle.object_alloc.specs.Cells.{cells, leaf_cells}
use Rattle.object_alloc.specs.Walk.{walk, leaves_in}
use Rattle.conf_eval.specs.Finding.{wrong_set}
use Rattle.conf_eval.proofs.broken.wrong_set.Given as goal

-- the cells so far and those of the leaves that are left are all
abbrev pub invariant-loop-leaf : goal.invariant-loop-leaf
invariant-loop-leaf l =
    let o = l.scene.objects.now in
    let left = drop l.leaf-index (leaves_in (walk o)) in
    record {
      count : l.cells + length (flat_map (leaf_cells o) left) ≡ length (cells o);
      set : wrong_set o l.scene.values.now l.cells left ≡ wrong_set o l.scene.values.now 0 (leaves_in (walk o));
    }
