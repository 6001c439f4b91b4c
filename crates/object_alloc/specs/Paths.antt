-- The object that holds each object, which objects are in which, paths, and the object of a path.
use Rattle.std.specs.Prelude.{ℕ, zero, suc, Bool, List, ◌++◌, Option, None, Some, length, slice_get, decimal, codes, position, []}
use Rattle.std.specs.Option.{option_map_or}
use Rattle.class_table.specs.declared.table.Resolved.{Resolved}
use Rattle.class_table.specs.declared.table.Resolved.TheVariants.{Span, Truth, Choice, One, Many, Ref, RefSet}
use Rattle.class_table.specs.declared.table.Variable.{Variable}
use Rattle.class_table.specs.Ancestry.{derives}
use Rattle.class_table.specs.Outline.{Outline}
use Rattle.object_alloc.specs.declared.object.Object.{Object}
use Rattle.object_alloc.specs.Variables.{class_in, variables}
use Rattle.object_alloc.specs.Walk.{objects}
use Rattle.std.specs.List.{range_with_len}
use Rattle.class_table.specs.Same.{same_name}

-- the object that holds an object; None at the top level
abbrev pub owner_in : List Object → ℕ → Option ℕ
owner_in xs n = option_map_or (λ (x : Object). x.owner) (slice_get xs n) None

-- object n is `whole`, or is contained, at any depth, in it: `whole` is n, or holds it, or holds
-- what holds it, and so on
abbrev pub is_inside : Outline → ℕ → ℕ → Bool
is_inside o n whole = derives (owner_in (objects o)) (length (objects o)) n whole

-- the number of an element of an array
abbrev pub index_text : Resolved → ℕ → List ℕ
index_text (Many c m) i = codes "[" ++ decimal i ++ codes "]"
index_text other i = []

-- the last name of a path: a variable's name, and for an array the element's number
abbrev pub step_text : Variable → ℕ → List ℕ
step_text v i = v.name ++ index_text v.shape i

abbrev pub last_step : List Variable → Object → List ℕ
last_step vs x =
    option_map_or (λ (v : Variable). step_text v x.element) (slice_get vs x.attribute) []

-- what stands before the last name: the path of the object that holds it, and a dot
abbrev pub owner_path : (ℕ → List ℕ) → Option ℕ → List ℕ
owner_path path_of None = []
owner_path path_of (Some p) = path_of p ++ codes "."

-- the path of object n, where at most so many objects hold one another
abbrev pub path_within : Outline → List Object → ℕ → ℕ → List ℕ
path_within o xs zero n = []
path_within o xs (suc steps) n =
    option_map_or (λ (x : Object). owner_path (path_within o xs steps) x.owner
    ++ last_step (variables o (class_in xs x.owner)) x) (slice_get xs n) []

-- the path of object n: each object is held by one with a lesser number
abbrev pub path : Outline → ℕ → List ℕ
path o n = path_within o (objects o) (suc n) n

-- the first object with this path
abbrev pub object_named : Outline → List ℕ → Option ℕ
object_named o text =
    position (λ n. same_name text (path o n)) (range_with_len 0 (length (objects o)))
