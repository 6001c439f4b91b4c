-- What a reader believes after this file: how many leaves a configuration changes, and which
-- configurations are allowed where some objects have failed.
--
-- A change is a leaf that had a value before and has another now; a reference set is one leaf.
-- Where some objects have failed, no reference and no member of a reference set may be one of them,
-- or be contained, at any depth, in one.
use Rattle.std.specs.Prelude.{ℕ, suc, Bool, false, not, ◌&&◌, ◌||◌, cond, List, [], ◌∷◌, ◌++◌, Option, None, Some, ℤ, int_le, nat_abs, length, take, drop}
use Rattle.std.specs.List.{list_all, list_any}
use Rattle.std.specs.Option.{option_map_or}
use Rattle.class_table.specs.Outline.{Outline}
use Rattle.object_alloc.specs.declared.object.Cell.{Cell}
use Rattle.object_alloc.specs.declared.object.Domain.{Domain}
use Rattle.object_alloc.specs.declared.object.Domain.TheVariants as domain
use Rattle.object_alloc.specs.declared.object.Leaf.{Leaf}
use Rattle.object_alloc.specs.Cells.{cells, leaf_cells}
use Rattle.object_alloc.specs.Members.{is_one}
use Rattle.object_alloc.specs.Paths.{is_inside}
use Rattle.object_alloc.specs.Walk.{leaves_in, walk}

-- Changes

-- a cell that has a hint has another value
abbrev pub differs : Option ℤ → ℤ → Bool
differs hint v = option_map_or (λ w. not (int_le w v && int_le v w)) hint false

-- one of these cells has another value; the hints and the values of one leaf
abbrev pub is_changed : List (Option ℤ) → List ℤ → Bool
is_changed (h ∷ hs) (v ∷ vs) = differs h v || is_changed hs vs
is_changed hs vs = false

-- how many of these leaves are changed, the hints and the values standing leaf by leaf
abbrev pub changes_of : Outline → List Leaf → List (Option ℤ) → List ℤ → ℕ
changes_of o [] hs vs = 0
changes_of o (l ∷ ls) hs vs =
    let count = length (leaf_cells o l) in
    let behind = changes_of o ls (drop count hs) (drop count vs) in
    cond (is_changed (take count hs) (take count vs)) (suc behind) behind

-- how many leaves have a former value, told by the hints, and another one in the configuration
abbrev pub changes : Outline → List (Option ℤ) → List ℤ → ℕ
changes o hs values = changes_of o (leaves_in (walk o)) hs values

-- Failures

-- the object that a reference with this value refers to
abbrev pub referred : Domain → ℤ → List ℕ
referred (domain.Extent c) v = nat_abs v ∷ []
referred (domain.Span low high) v = []

-- the object that a cell names with this value: the one that it refers to, or its member that is in
abbrev pub named_at : Option ℕ → Domain → ℤ → List ℕ
named_at None d v = referred d v
named_at (Some n) d v = cond (is_one v) (n ∷ []) []

abbrev pub named_by : Cell → ℤ → List ℕ
named_by c v = named_at c.element c.domain v

-- the objects that these cells name
abbrev pub named : List Cell → List ℤ → List ℕ
named (c ∷ cs) (v ∷ vs) = named_by c v ++ named cs vs
named cs vs = []

-- the object is none of those that failed, nor in one
abbrev pub is_sound : Outline → List ℕ → ℕ → Bool
is_sound o failed n = not (list_any (is_inside o n) failed)

-- no object that the configuration names failed, nor is in one that did
abbrev pub allowed : Outline → List ℕ → List ℤ → Bool
allowed o failed values = list_all (is_sound o failed) (named (cells o) values)
