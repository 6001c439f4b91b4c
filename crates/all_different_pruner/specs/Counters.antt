-- Counting boxes by where they begin or end. What a reader believes after this file: the first
-- slots added up tell how many boxes lie in an interval.
use Rattle.std.specs.Prelude.{ℕ, zero, suc, ◌+◌, Bool, false, ◌&&◌, cond, List, [], ◌∷◌, Option, Some, None, ℤ, int_le, nat_le}
use Rattle.signed_clause.specs.Ranges.{Ranges}
use Rattle.signed_clause.specs.Clauses.{Boxes, box_of}
use Rattle.ground_form.specs.Bounds.{low_of}

-- the first n numbers, added up
abbrev pub total : ℕ → List ℕ → ℕ
total zero ns = 0
total (suc n) [] = 0
total (suc n) (m ∷ ns) = m + total n ns

-- there is a slot, and it is at most e
abbrev pub is_upto : Option ℕ → ℕ → Bool
is_upto None e = false
is_upto (Some d) e = nat_le d e

-- there is a slot, and e is at most it
abbrev pub reaches : Option ℕ → ℕ → Bool
reaches None e = false
reaches (Some d) e = nat_le e d

-- the box begins within a..b
abbrev pub begins_in : ℤ → ℤ → Ranges → Bool
begins_in a b box = int_le a (low_of box) && int_le (low_of box) b

-- how many boxes of the list do
abbrev pub count_begun : ℤ → ℤ → List ℕ → Boxes → ℕ
count_begun a b [] boxes = 0
count_begun a b (x ∷ xs) boxes =
    cond (begins_in a b (box_of boxes x)) (suc (count_begun a b xs boxes))
    (count_begun a b xs boxes)
