-- What the objects of a model are kept as, and what is asked of them.
use Rattle.std.specs.Prelude.{All, ◌≡◌, ℕ, List, Option}
use Rattle.class_table.specs.Outline.{Outline}
use Rattle.class_table.specs.Sound.{IsSound}
use Rattle.class_table.specs.Tables.{IsFew}
use Rattle.object_alloc.specs.declared.object.Cell.{Cell}
use Rattle.object_alloc.specs.declared.object.Object.{Object}
use Rattle.object_alloc.specs.declared.object.Leaf.{Leaf}
use Rattle.object_alloc.specs.Cells.{cells}
use Rattle.object_alloc.specs.Groups.{parts_of, own_cells}
use Rattle.object_alloc.specs.Laying.{AreSizes, AreClassed}
use Rattle.object_alloc.specs.Limits.{IsWithinLimits}
use Rattle.object_alloc.specs.Walk.{objects, leaves_in, walk}

-- the objects, the leaves, the cells and the sizes of the extents of a model, and the numbers of
-- its objects and cells by place
pub record IsLaidOut (o : Outline) (xs : List Object) (ls : List Leaf) (cs : List Cell) (sizes : List ℕ) (parts own : Option ℕ → ℕ → List ℕ) : Type 0 where
  pub sound : IsSound o
  pub few_values : All IsFew o.enumerations
  pub objects_are : xs ≡ objects o
  pub leaves_are : ls ≡ leaves_in (walk o)
  pub cells_are : cs ≡ cells o
  pub sizes_are : AreSizes o sizes
  pub parts_are : (owner : Option ℕ) → (k : ℕ) → parts owner k ≡ parts_of o owner k
  pub own_are : (owner : Option ℕ) → (k : ℕ) → own owner k ≡ own_cells o owner k
  pub limits : IsWithinLimits o
  pub classes : AreClassed o xs
