-- Which variables an object has, or the top level.
use Rattle.std.specs.Prelude.{ℕ, List, Option, None, Some, slice_get}
use Rattle.class_table.specs.declared.table.Variable.{Variable}
use Rattle.class_table.specs.Outline.{Outline, attributes}
use Rattle.std.specs.Option.{option_map}
use Rattle.object_alloc.specs.declared.object.Object.{Object}
use Rattle.object_alloc.specs.Walk.{objects}

-- the variables of a class, or those of the top level
abbrev pub variables : Outline → Option ℕ → List Variable
variables o None = o.roots
variables o (Some c) = attributes o.classes c

-- the class of an object, by its number
abbrev pub class_in : List Object → Option ℕ → Option ℕ
class_in xs None = None
class_in xs (Some n) = option_map (λ (x : Object). x.class) (slice_get xs n)

-- the attributes of an object, by its number, or the variables of the top level
abbrev pub variables_of : Outline → Option ℕ → List Variable
variables_of o owner = variables o (class_in (objects o) owner)
