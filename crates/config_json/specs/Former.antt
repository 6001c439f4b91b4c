-- The values that a former JSON value gives: of each leaf the value at the leaf's position, where
-- it is one of the leaf's.
use Rattle.std.specs.Prelude.{ℕ, zero, suc, Bool, ◌&&◌, cond, List, [], ◌∷◌, ◌++◌, Option, None, Some, ℤ, pos, int_le, is_some, length, map, nat_eq, position, replicate, slice_get, option_map, option_and_then}
use Rattle.std.specs.List.{flat_map, list_any}
use Rattle.std.specs.Option.{option_map_or}
use Rattle.class_table.specs.declared.table.Enumeration.{Enumeration}
use Rattle.class_table.specs.declared.table.Resolved.{Resolved}
use Rattle.class_table.specs.declared.table.Resolved.TheVariants.{Span, Truth, Choice, One, Many, Ref, RefSet}
use Rattle.class_table.specs.declared.table.Variable.{Variable}
use Rattle.class_table.specs.Outline.{Outline}
use Rattle.class_table.specs.Same.{same_name}
use Rattle.object_alloc.specs.declared.object.Leaf.{Leaf}
use Rattle.object_alloc.specs.declared.object.Object.{Object}
use Rattle.object_alloc.specs.Cells.{extent, leaf_cells}
use Rattle.object_alloc.specs.Variables.{variables_of}
use Rattle.object_alloc.specs.Paths.{object_named, path, owner_path}
use Rattle.object_alloc.specs.Walk.{objects, walk, leaves_in}
use Rattle.serde_json.specs.Data.{Data, Items, no_items, item}
use Rattle.serde_json.specs.Events.{items_len}
use Rattle.serde_json.specs.Find.{get, at, as_bool, as_number, as_integer, as_str, as_array}
use Rattle.config_json.specs.Keys.{text_of}

-- Positions: keys for names, elements for indexes

-- the element of an array
abbrev pub element_of : Resolved → ℕ → Data → Option Data
element_of (Many c n) i d = at i d
element_of other i d = Some d

-- what stands under the name of variable k of these
abbrev pub under_name : List Variable → ℕ → Data → Option Data
under_name vs k d = option_and_then (λ (v : Variable). get (text_of v.name) d) (slice_get vs k)

-- where an object stands, from where its owner stands
abbrev pub step_to : List Variable → Object → Data → Option Data
step_to vs x d =
    option_and_then (λ (v : Variable). option_and_then (element_of v.shape x.element)
    (get (text_of v.name) d)) (slice_get vs x.attribute)

abbrev pub owner_position : (ℕ → Option Data) → Data → Option ℕ → Option Data
owner_position position_of d None = Some d
owner_position position_of d (Some n) = position_of n

-- the position of object n, where at most so many objects hold one another
abbrev pub position_within : Outline → Data → ℕ → ℕ → Option Data
position_within o d zero n = None
position_within o d (suc steps) n =
    option_and_then (λ (x : Object). option_and_then (step_to (variables_of o x.owner) x)
    (owner_position (position_within o d steps) d x.owner)) (slice_get (objects o) n)

-- the position of object n: each object is held by one with a lesser number
abbrev pub object_position : Outline → Data → ℕ → Option Data
object_position o d n = position_within o d (suc n) n

-- the position of a leaf
abbrev pub leaf_position : Outline → Data → Leaf → Option Data
leaf_position o d l =
    option_and_then (under_name (variables_of o l.owner) l.attribute)
    (owner_position (object_position o d) d l.owner)

-- Values, by the shape of the leaf: a number for each of its cells

abbrev pub one : ℤ → List ℤ
one v = v ∷ []

-- a number that is kept as a whole number, within the range
abbrev pub whole_in : ℤ → ℤ → Data → Option ℤ
whole_in low high d =
    option_and_then (λ v. cond (int_le low v && int_le v high) (Some v) None)
    (option_and_then as_integer (as_number d))

abbrev pub truth_number : Bool → ℤ
truth_number b = cond b (pos 1) (pos 0)

-- the number of the value of an enumeration with this name
abbrev pub value_number : Outline → ℕ → List ℕ → Option ℤ
value_number o e name =
    option_and_then (λ (x : Enumeration). option_map pos (position (same_name name) x.values))
    (slice_get o.enumerations e)

abbrev pub of_extent : Outline → ℕ → ℕ → Option ℕ
of_extent o c n = cond (list_any (nat_eq n) (extent o c)) (Some n) None

-- a string that is the path of an object of the extent
abbrev pub object_in : Outline → ℕ → Data → Option ℕ
object_in o c d = option_and_then (of_extent o c) (option_and_then (object_named o) (as_str d))

-- strings that are paths of objects of the extent, none of which stands among them twice or among
-- those seen before
abbrev pub members_in : Outline → ℕ → List ℕ → Items → Option (List ℕ)
members_in o c seen no_items = Some seen
members_in o c seen (item d ds) =
    option_and_then (λ n. cond (list_any (nat_eq n) seen) None (members_in o c (seen ++ n ∷ []) ds))
    (object_in o c d)

-- for each object of the extent whether it is among the members: 1 is in, 0 is out
abbrev pub marks : List ℕ → List ℕ → List ℤ
marks extent members = map (λ n. truth_number (list_any (nat_eq n) members)) extent

-- an array of so many such strings
abbrev pub set_in : Outline → ℕ → ℕ → Items → Option (List ℤ)
set_in o c count ds =
    cond (nat_eq (items_len ds) count) (option_map (marks (extent o c)) (members_in o c [] ds)) None

abbrev pub value_in : Outline → Resolved → Data → Option (List ℤ)
value_in o (Span low high) d = option_map one (whole_in low high d)
value_in o Truth d = option_map one (option_map truth_number (as_bool d))
value_in o (Choice e) d = option_map one (option_and_then (value_number o e) (as_str d))
value_in o (Ref c) d = option_map one (option_map pos (object_in o c d))
value_in o (RefSet c count) d = option_and_then (set_in o c count) (as_array d)
value_in o other d = None

-- the former value of a leaf
abbrev pub former : Outline → Data → Leaf → Option (List ℤ)
former o d l = option_and_then (value_in o l.shape) (leaf_position o d l)

-- Hints: the cells of a leaf have its former value, or none of them has one

abbrev pub leaf_hints : Outline → Data → Leaf → List (Option ℤ)
leaf_hints o d l =
    option_map_or (map Some) (former o d l) (replicate (length (leaf_cells o l)) None)

abbrev pub hints : Outline → Data → List (Option ℤ)
hints o d = flat_map (leaf_hints o d) (leaves_in (walk o))

-- The first leaf without a former value

abbrev pub variable_name : List Variable → ℕ → List ℕ
variable_name vs k = option_map_or (λ (v : Variable). v.name) (slice_get vs k) []

-- the path of a leaf: that of its object, a dot, and the name of the attribute; at the top level
-- the name alone
abbrev pub leaf_path : Outline → Leaf → List ℕ
leaf_path o l = owner_path (path o) l.owner ++ variable_name (variables_of o l.owner) l.attribute

abbrev pub first_missing : Outline → Data → List Leaf → Option (List ℕ)
first_missing o d [] = None
first_missing o d (l ∷ ls) =
    cond (is_some (former o d l)) (first_missing o d ls) (Some (leaf_path o l))

abbrev pub missing : Outline → Data → Option (List ℕ)
missing o d = first_missing o d (leaves_in (walk o))
