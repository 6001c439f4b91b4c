-- A configuration as a JSON value, by containment: what each attribute of each object shows of the
-- objects or the cells that it holds.
use Rattle.std.specs.Prelude.{ℕ, zero, suc, List, [], ◌∷◌, Option, None, Some, ℤ, pos, nat_abs, length, filter_map, codes}
use Rattle.class_table.specs.declared.table.Resolved.{Resolved}
use Rattle.class_table.specs.declared.table.Resolved.TheVariants.{Span, Truth, Choice, One, Many, Ref, RefSet}
use Rattle.class_table.specs.declared.table.Variable.{Variable}
use Rattle.class_table.specs.Outline.{Outline}
use Rattle.object_alloc.specs.Cells.{cells}
use Rattle.object_alloc.specs.Groups.{parts_of, own_cells}
use Rattle.object_alloc.specs.Variables.{variables_of}
use Rattle.object_alloc.specs.Members.{is_one, member_at, first_value}
use Rattle.object_alloc.specs.Paths.{path}
use Rattle.object_alloc.specs.Walk.{objects}
use Rattle.serde_json.specs.Data.{Data, null, boolean, number, string, array, object, Items, no_items, item, Members, no_members, put}
use Rattle.serde_json.specs.Find.{of_integer}
use Rattle.serde_json.specs.Written.{compact_text}
use Rattle.config_json.specs.Keys.{text_of, value_name, class_name}

-- Leaves, by the numbers of their cells

-- the values of these numbers, in order
abbrev pub all_data : (ℕ → Data) → List ℕ → Items
all_data of [] = no_items
all_data of (n ∷ ns) = item (of n) (all_data of ns)

abbrev pub path_data : Outline → ℕ → Data
path_data o n = string (text_of (path o n))

abbrev pub paths_data : Outline → List ℕ → Items
paths_data o ns = all_data (path_data o) ns

-- a leaf of this shape with these cells: a number, a truth value, the name of a value, the path of
-- an object, or the paths of the members in order of allocation
abbrev pub leaf_data : Outline → List ℤ → List ℕ → Resolved → Data
leaf_data o values is (Span low high) = number (of_integer (first_value values is))
leaf_data o values is Truth = boolean (is_one (first_value values is))
leaf_data o values is (Choice e) =
    string (text_of (value_name o e (nat_abs (first_value values is))))
leaf_data o values is (Ref c) = path_data o (nat_abs (first_value values is))
leaf_data o values is (RefSet c n) =
    array (paths_data o (filter_map (member_at (cells o) values) is))
leaf_data o values is other = null

-- Objects

abbrev pub first_data : (ℕ → Data) → List ℕ → Data
first_data of_object [] = null
first_data of_object (n ∷ ns) = of_object n

-- attribute k of an object, or variable k of the top level: the one object, the array of its
-- objects, or a leaf
abbrev pub attribute_data : (ℕ → Data) → Outline → List ℤ → Option ℕ → ℕ → Resolved → Data
attribute_data of_object o values owner k (One c) = first_data of_object (parts_of o owner k)
attribute_data of_object o values owner k (Many c n) =
    array (all_data of_object (parts_of o owner k))
attribute_data of_object o values owner k s = leaf_data o values (own_cells o owner k) s

-- the keys found so far, with one for each of these variables, the first of which has number k
abbrev pub with_variables : (ℕ → Data) → Outline → List ℤ → Option ℕ → ℕ → List Variable → Members
    → Members
with_variables of_object o values owner k [] found = found
with_variables of_object o values owner k (v ∷ vs) found =
    with_variables of_object o values owner (suc k) vs
    (put (text_of v.name) (attribute_data of_object o values owner k v.shape) found)

abbrev pub class_member : Outline → ℕ → Members
class_member o n = put (codes "class") (string (text_of (class_name o n))) no_members

-- object n, with at most so many levels of objects: the name of its class, and its attributes
abbrev pub object_within : Outline → List ℤ → ℕ → ℕ → Data
object_within o values zero n = null
object_within o values (suc levels) n =
    object (with_variables (object_within o values levels) o values (Some n) 0
    (variables_of o (Some n)) (class_member o n))

-- object n: no more levels than there are objects
abbrev pub object_data : Outline → List ℤ → ℕ → Data
object_data o values n = object_within o values (length (objects o)) n

-- a configuration: one key for each variable of the top level
abbrev pub config_data : Outline → List ℤ → Data
config_data o values =
    object (with_variables (object_data o values) o values None 0 (variables_of o None) no_members)

-- the line of a configuration, without its end: no spaces, keys in byte order
abbrev pub config_bytes : Outline → List ℤ → List ℕ
config_bytes o values = compact_text (config_data o values)
