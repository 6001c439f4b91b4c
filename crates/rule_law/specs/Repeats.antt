-- Which variables stand twice in a list. What a reader believes after this file: where none does,
-- or where the boxes of all that do are single values, the open variables of the list differ.
use Rattle.std.specs.Prelude.{◌≡◌, ℕ, suc, ◌<◌, ◌==◌, Bool, true, false, ◌&&◌, ◌||◌, cond, List, [], ◌∷◌, Option, Some, None, length, slice_index_or, nat_le}
use Rattle.signed_clause.specs.Ranges.{Ranges}
use Rattle.signed_clause.specs.Clauses.{Boxes, box_of}
use Rattle.ground_form.specs.Bounds.{low_of}
use Rattle.box_rules.specs.Refuted.{fixed_at}
use Rattle.rule_law.specs.Reasons.{has_number}

-- the number stands twice in the list
abbrev pub is_repeated : ℕ → List ℕ → Bool
is_repeated x [] = false
is_repeated x (y ∷ ys) = (y == x && has_number x ys) || is_repeated x ys

-- `repeated` has what stands twice in the list, and nothing else
abbrev pub AreRepeated : List ℕ → List ℕ → Type 0
AreRepeated repeated xs = (x : ℕ) → has_number x repeated ≡ is_repeated x xs

-- the set is one value
abbrev pub is_one : Ranges → Bool
is_one s = fixed_at s (low_of s)

-- x before the others, where its box isn't one value
abbrev pub open_one : ℕ → Boxes → List ℕ → List ℕ
open_one x boxes rest = cond (is_one (box_of boxes x)) rest (x ∷ rest)

-- the variables of the list whose boxes aren't one value, in order
abbrev pub open_vars : List ℕ → Boxes → List ℕ
open_vars [] boxes = []
open_vars (x ∷ xs) boxes = open_one x boxes (open_vars xs boxes)

-- the boxes of the list's variables are one value each
abbrev pub all_one : List ℕ → Boxes → Bool
all_one [] boxes = true
all_one (x ∷ xs) boxes = is_one (box_of boxes x) && all_one xs boxes

-- ---- how it is found

-- the numbers ascend from low on, and all are below top
abbrev pub ascends : ℕ → ℕ → List ℕ → Bool
ascends low top [] = nat_le low top
ascends low top (x ∷ xs) = nat_le low x && ascends (suc x) top xs

-- the number is the last one
abbrev pub is_again : Option ℕ → ℕ → Bool
is_again None x = false
is_again (Some y) x = y == x

-- the numbers of the list that are the same as the one before
abbrev pub doubles_after : Option ℕ → List ℕ → List ℕ
doubles_after last [] = []
doubles_after last (x ∷ xs) =
    cond (is_again last x) (x ∷ doubles_after (Some x) xs) (doubles_after (Some x) xs)

-- the list at the index is xs
abbrev pub IsKept : List (List ℕ × List ℕ) → ℕ → List ℕ → Type 0
IsKept known i xs = (i < length known) × ((d : List ℕ × List ℕ) → (slice_index_or known i d).0 ≡ xs)
