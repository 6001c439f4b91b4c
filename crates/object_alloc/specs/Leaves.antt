-- Where leaves stand.
use Rattle.std.specs.Prelude.{◌≡◌, ◌<◌, Some, IfSome, length, slice_get}
use Rattle.class_table.specs.declared.table.Variable.{Variable}
use Rattle.class_table.specs.Outline.{Outline}
use Rattle.object_alloc.specs.declared.object.Leaf.{Leaf}
use Rattle.object_alloc.specs.Variables.{variables_of}
use Rattle.object_alloc.specs.Walk.{objects}

-- a leaf of a model: its owner is an object or the top level, and has an attribute of the leaf's
-- shape
pub record IsHeldLeaf (o : Outline) (l : Leaf) : Type 0 where
  pub owner : IfSome l.owner (λ n. n < length (objects o))
  pub variable : Variable
  pub has : slice_get (variables_of o l.owner) l.attribute ≡ Some variable
  pub shape : variable.shape ≡ l.shape
