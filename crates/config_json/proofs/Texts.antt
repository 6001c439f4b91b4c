-- What reading a configuration back asks of names: they are texts in UTF-8, and those that stand beside one another differ.
use Rattle.std.specs.Prelude.{◌≡◌, ◌<◌, ℕ, [], Option, Some, length, position, slice_get, slice_index_or}
use Rattle.class_table.specs.declared.table.Enumeration.{Enumeration}
use Rattle.class_table.specs.declared.table.Variable.{Variable}
use Rattle.class_table.specs.Outline.{Outline}
use Rattle.class_table.specs.Same.{same_name}
use Rattle.object_alloc.specs.Variables.{variables_of}
use Rattle.object_alloc.specs.Paths.{path}
use Rattle.object_alloc.specs.Walk.{objects}
use Rattle.config_json.specs.Keys.{text_of}

-- the names of variables and of values of enumerations, and the paths of objects
pub record HasTexts (o : Outline) : Type 0 where
  -- no two variables of an object, or of the top level, have one text
  pub differ : (owner : Option ℕ) (j k : ℕ) (v w : Variable) → slice_get (variables_of o owner) j ≡ Some v → slice_get (variables_of o owner) k ≡ Some w → text_of v.name ≡ text_of w.name → j ≡ k
  pub paths : (n : ℕ) → n < length (objects o) → text_of (path o n) ≡ path o n
  -- the text of a value's name is that of this value
  pub values : (e k : ℕ) (x : Enumeration) → slice_get o.enumerations e ≡ Some x → k < length x.values → position (same_name (text_of (slice_index_or x.values k []))) x.values ≡ Some k
