-- How crowded intervals are found by counters. What a reader believes after this file: nothing of
-- what a constraint means; these are the steps of a count.
use Rattle.std.specs.Prelude.{ℕ, zero, suc, ◌+◌, Bool, false, ◌&&◌, cond, List, [], ◌∷◌, Option, Some, None, ℤ, ◌≤ℤ◌, int_le, nat_le}
use Rattle.signed_clause.specs.Clauses.{Boxes, box_of}
use Rattle.ground_form.specs.Bounds.{low_of, high_of}

-- where the variables' boxes begin and end
abbrev pub ends_of : List ℕ → Boxes → List (ℤ × ℤ)
ends_of [] boxes = []
ends_of (x ∷ xs) boxes = (low_of (box_of boxes x), high_of (box_of boxes x)) ∷ ends_of xs boxes

-- none of them ends before it begins
abbrev pub AreInOrder : List ℕ → Boxes → Type 0
AreInOrder [] boxes = Unit {0}
AreInOrder (x ∷ xs) boxes = (low_of (box_of boxes x) ≤ℤ high_of (box_of boxes x)) × AreInOrder xs
    boxes

-- how many of the ends lie within a..b
abbrev pub count_ends : ℤ → ℤ → List (ℤ × ℤ) → ℕ
count_ends a b [] = 0
count_ends a b (p ∷ ps) =
    cond (int_le a p.0 && int_le p.1 b) (suc (count_ends a b ps)) (count_ends a b ps)

-- the first n numbers, added up
abbrev pub total : ℕ → List ℕ → ℕ
total zero ns = 0
total (suc n) [] = 0
total (suc n) (m ∷ ns) = m + total n ns

-- there is a slot, and it is at most e
abbrev pub is_upto : Option ℕ → ℕ → Bool
is_upto None e = false
is_upto (Some d) e = nat_le d e
