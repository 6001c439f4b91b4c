-- Laying out objects and leaves, part by part.
use Rattle.std.specs.Prelude.{◌≡◌, ℕ, ◌+◌, ◌<◌, ◌≤◌, List, ◌++◌, length, slice_index, Contains}
use Rattle.std.specs.List.{flat_map}
use Rattle.model_limits.specs.Limits.{most_cells, most_objects}
use Rattle.class_table.specs.Outline.{Outline}
use Rattle.class_table.specs.Sound.{IsSound}
use Rattle.class_table.specs.Tables.{IsShapeOf}
use Rattle.object_alloc.specs.declared.fault.AllocFault.{AllocFault}
use Rattle.object_alloc.specs.declared.fault.AllocFault.TheVariants.{TooManyObjects, TooDeep, TooManyCells, Memory}
use Rattle.object_alloc.specs.declared.layout.Layout.{Layout}
use Rattle.object_alloc.specs.declared.object.Cell.{Cell}
use Rattle.object_alloc.specs.declared.object.Leaf.{Leaf}
use Rattle.object_alloc.specs.declared.object.Object.{Object}
use Rattle.object_alloc.specs.Cells.{extent, leaf_cells}
use Rattle.object_alloc.specs.Walk.{Met, made, objects_in, leaves_in}

-- a part of the walk, by the number of the next object
abbrev pub Part : Type 0
Part = ℕ → List Met

abbrev pub cells_of : Outline → List Leaf → List Cell
cells_of o leaves = flat_map (leaf_cells o) leaves

abbrev pub met_cells : Outline → List Met → List Cell
met_cells o ms = cells_of o (leaves_in ms)

-- the classes and enumerations that the leaves name are there
abbrev pub AreThere : Outline → List Leaf → Type 0
AreThere o leaves =
    (l : Leaf) → Contains leaves l → IsShapeOf (length o.classes) (length o.enumerations) l.shape

-- the classes of the objects are there
abbrev pub AreClassed : Outline → List Object → Type 0
AreClassed o xs = (x : Object) → Contains xs x → x.class < length o.classes

-- the sizes of all extents
pub record AreSizes (o : Outline) (sizes : List ℕ) : Type 0 where
  pub count : length sizes ≡ length o.classes
  pub each : (c : ℕ) → c < length o.classes → slice_index sizes c ≡ length (extent o c)

-- a part may be laid out: its objects are not too many, and the cells are counted
pub record IsReady (o : Outline) (sizes : List ℕ) (before : Layout) (part : Part) : Type 0 where
  pub sound : IsSound o
  pub sizes_are : AreSizes o sizes
  pub count : before.cells ≡ length (cells_of o before.leaves.items)
  pub few_cells : before.cells ≤ most_cells
  pub shapes : AreThere o before.leaves.items
  pub few : length before.objects.items + made (part (length before.objects.items)) ≤ most_objects

-- a part was laid out behind what stood there
pub record HasLaid (o : Outline) (before after : Layout) (part : Part) : Type 0 where
  pub objects_are : after.objects.items ≡ before.objects.items
      ++ objects_in (part (length before.objects.items))
  pub leaves_are : after.leaves.items ≡ before.leaves.items
      ++ leaves_in (part (length before.objects.items))
  pub count : after.cells ≡ length (cells_of o after.leaves.items)
  pub few_cells : after.cells ≤ most_cells
  pub shapes : AreThere o after.leaves.items

-- with a part that is left it is the whole part
pub record IsLaying (o : Outline) (before now : Layout) (whole left : Part) : Type 0 where
  pub objects_are : now.objects.items ++ objects_in (left (length now.objects.items))
      ≡ before.objects.items ++ objects_in (whole (length before.objects.items))
  pub leaves_are : now.leaves.items ++ leaves_in (left (length now.objects.items))
      ≡ before.leaves.items ++ leaves_in (whole (length before.objects.items))
  pub count : now.cells ≡ length (cells_of o now.leaves.items)
  pub few_cells : now.cells ≤ most_cells
  pub shapes : AreThere o now.leaves.items

-- so many cells are too many
abbrev pub IsCellExcess : ℕ → AllocFault → Type 0
IsCellExcess n TooManyObjects = ⊥
IsCellExcess n TooDeep = ⊥
IsCellExcess n TooManyCells = most_cells < n
IsCellExcess n Memory = Unit {0}

-- a part gives too many cells
abbrev pub IsRefusedPart : Outline → Layout → Part → AllocFault → Type 0
IsRefusedPart o before part =
    IsCellExcess (length (cells_of o before.leaves.items) + length
    (met_cells o (part (length before.objects.items))))
