-- Names and paths as the texts of a JSON value.
use Rattle.std.specs.Prelude.{ℕ, List, [], Option, Some, slice_get, slice_index_or}
use Rattle.std.specs.Option.{option_map_or}
use Rattle.std.specs.Str.Lossy.{utf8_lossy}
use Rattle.class_table.specs.declared.table.Class.{Class}
use Rattle.class_table.specs.declared.table.Enumeration.{Enumeration}
use Rattle.class_table.specs.Outline.{Outline}
use Rattle.object_alloc.specs.Variables.{class_in}
use Rattle.object_alloc.specs.Walk.{objects}

-- these bytes as a text. A text is UTF-8, and bytes that are UTF-8 stay as they are; names and
-- paths are ASCII.
abbrev pub text_of : List ℕ → List ℕ
text_of bytes = utf8_lossy bytes

-- the name of value k of an enumeration
abbrev pub value_name : Outline → ℕ → ℕ → List ℕ
value_name o e k =
    option_map_or (λ (x : Enumeration). slice_index_or x.values k []) (slice_get o.enumerations e)
    []

abbrev pub name_in : Outline → Option ℕ → List ℕ
name_in o class =
    option_map_or (λ c. option_map_or (λ (x : Class). x.name) (slice_get o.classes c) []) class []

-- the name of the class of object n
abbrev pub class_name : Outline → ℕ → List ℕ
class_name o n = name_in o (class_in (objects o) (Some n))
