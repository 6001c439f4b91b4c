use Rattle.std.proofs.Common.{◌≡◌, ◌+◌, ◌≤◌, drop, length}
use Rattle.std.specs.List.{flat_map}
use Rattle.object_alloc.specs.Cells.{cells, leaf_cells}
use Rattle.object_alloc.specs.Changes.{changes, changes_of}
use Rattle.object_alloc.specs.Walk.{leaves_in, walk}
use Rattle.reconfigure.proofs.former_values.change_count.Given as goal

-- the changes of the leaves so far, and of what is left
abbrev pub invariant-loop-i : goal.invariant-loop-i
invariant-loop-i l =
    record {
      left : l.first + length (flat_map (leaf_cells l.objects) (drop l.i (leaves_in (walk l.objects)))) ≡ length (cells l.objects);
      value : l.count + changes_of l.objects (drop l.i (leaves_in (walk l.objects))) (drop l.first l.former) (drop l.first l.config) ≡ changes l.objects l.former l.config;
      few : l.count ≤ l.i;
    }
