-- How many objects and cells a model may have, and how deep an object may stand.
use Rattle.std.specs.Prelude.{◌<◌, ◌≤◌, length, All, Contains}
use Rattle.model_limits.specs.Limits.{most_cells, most_names, most_objects}
use Rattle.class_table.specs.Outline.{Outline}
use Rattle.object_alloc.specs.declared.fault.AllocFault.{AllocFault}
use Rattle.object_alloc.specs.declared.fault.AllocFault.TheVariants.{TooManyObjects, TooDeep, TooManyCells, Memory}
use Rattle.object_alloc.specs.declared.object.Object.{Object}
use Rattle.object_alloc.specs.Cells.{cells}
use Rattle.object_alloc.specs.Walk.{objects}

abbrev pub HasFewObjects : Outline → Type 0
HasFewObjects o = length (objects o) ≤ most_objects

abbrev pub IsShallow : Outline → Type 0
IsShallow o = All (λ (x : Object). x.depth ≤ most_names) (objects o)

abbrev pub HasFewCells : Outline → Type 0
HasFewCells o = length (cells o) ≤ most_cells

pub record IsWithinLimits (o : Outline) : Type 0 where
  pub objects : HasFewObjects o
  pub depths : IsShallow o
  pub cells : HasFewCells o

-- some object has a path of more than `most_names` names
pub record HasDeepObject (o : Outline) : Type 0 where
  pub deep : Object
  pub has : Contains (objects o) deep
  pub depth : most_names < deep.depth

-- why a model is refused: the first limit in this order that it breaks
abbrev pub IsRefused : Outline → AllocFault → Type 0
IsRefused o TooManyObjects = most_objects < length (objects o)
IsRefused o TooDeep = HasFewObjects o × HasDeepObject o
IsRefused o TooManyCells = HasFewObjects o × IsShallow o × (most_cells < length (cells o))
IsRefused o Memory = Unit {0}
