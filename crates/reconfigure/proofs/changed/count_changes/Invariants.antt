use Rattle.std.proofs.Common.{◌≡◌, ◌+◌, ◌*◌, List, ℤ, pos, ◌+ℤ◌, drop, take, length}
use Rattle.std.specs.List.{flat_map}
use Rattle.object_alloc.specs.Cells.{cells, leaf_cells}
use Rattle.object_alloc.specs.Changes.{changes, changes_of}
use Rattle.object_alloc.specs.Walk.{leaves_in, walk}
use Rattle.form_build.specs.Worlds.{IsWorld, Defines, IsFew}
use Rattle.reconfigure.specs.Counting.{count_at, IsCount}
use Rattle.reconfigure.proofs.changed.count_changes.Given as goal

-- the changes of the leaves so far, and of what is left
abbrev pub invariant-loop-i : goal.invariant-loop-i
invariant-loop-i l =
    record {
      left : l.first + length (flat_map (leaf_cells l.objects) (drop l.i (leaves_in (walk l.objects)))) ≡ length (cells l.objects);
      value : (a : List ℤ) → IsWorld l.maker a → (count_at l.count a +ℤ pos (changes_of l.objects (drop l.i (leaves_in (walk l.objects))) (drop l.first l.former) (drop l.first (take l.maker.search a)))) ≡ pos (changes l.objects l.former (take l.maker.search a));
      numbers : IsCount l.maker.domains (2 * l.first) l.count;
      adds : Defines l.fn.maker l.maker;
      few : IsFew (3 * l.first) l.fn.maker l.maker;
    }
