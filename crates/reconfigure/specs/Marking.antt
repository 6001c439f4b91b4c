-- Marks of objects. What a reader believes after this file: which objects are marked, and which
-- numbers a set of marked ones has.
use Rattle.std.specs.Prelude.{◌≡◌, ℕ, ◌+◌, ◌<◌, Bool, false, ◌&&◌, ◌||◌, List, [], ◌∷◌, Option, None, Some, ℤ, pos, length, slice_index_or}
use Rattle.std.specs.List.{All, list_any}
use Rattle.std.specs.Ordering.{int_eq}
use Rattle.class_table.specs.Outline.{Outline}
use Rattle.object_alloc.specs.Paths.{is_inside}
use Rattle.object_alloc.specs.Walk.{objects}
use Rattle.signed_clause.specs.Ranges.{has}
use Rattle.reconfigure.specs.declared.failed.Failed.{Failed}

-- the object is one of these, or is contained, at any depth, in one
abbrev pub is_in_some : Outline → List ℕ → ℕ → Bool
is_in_some o failed n = list_any (is_inside o n) failed

-- each of the first objects is marked exactly where it is in one of these
pub record AreMarks (o : Outline) (failed : List ℕ) (marks : List Bool) : Type 0 where
  pub each : (k : ℕ) → k < length marks → slice_index_or marks k false ≡ is_in_some o failed k

-- the object that holds one is marked; at the top level none does
abbrev pub is_owner_marked : List Bool → Option ℕ → Bool
is_owner_marked marks None = false
is_owner_marked marks (Some p) = slice_index_or marks p false

-- the value is the number of a marked object, where the first mark is that of object n
abbrev pub is_marked : ℕ → List Bool → ℤ → Bool
is_marked n [] v = false
is_marked n (m ∷ ms) v = (m && int_eq v (pos n)) || is_marked (n + 1) ms v

-- these are objects, and the set has the numbers of those that are in one of them
pub record AreFailed (o : Outline) (f : Failed) : Type 0 where
  pub there : All (λ n. n < length (objects o)) f.numbers.items
  pub inside : (n : ℕ) → has f.inside (pos n) ≡ is_in_some o f.numbers.items n
