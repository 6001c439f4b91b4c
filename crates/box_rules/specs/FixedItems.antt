-- How loads are added up from a row. What a reader believes after this file: nothing of what a
-- constraint means; these are the steps of a sum.
use Rattle.std.specs.Prelude.{ℕ, Bool, false, ◌||◌, cond, List, [], ◌∷◌, ℤ, pos, ◌+ℤ◌, int_lt}
use Rattle.std.specs.Ordering.{int_eq}
use Rattle.signed_clause.specs.Clauses.{Boxes, box_of}
use Rattle.ground_form.specs.Bounds.{low_of, high_of}
use Rattle.box_rules.specs.Refuted.{fixed_at}

-- the bin, the least size and the greatest room of the item
abbrev pub read_of : ℕ × ℕ × ℕ → Boxes → ℤ × ℤ × ℤ
read_of i boxes = (low_of (box_of boxes i.0), low_of (box_of boxes i.1), high_of (box_of boxes i.2))

-- the item's bin is fixed
abbrev pub is_put : ℕ × ℕ × ℕ → Boxes → Bool
is_put i boxes = fixed_at (box_of boxes i.0) (low_of (box_of boxes i.0))

-- those of the items whose bins are fixed
abbrev pub fixed_of : List (ℕ × ℕ × ℕ) → Boxes → List (ℤ × ℤ × ℤ)
fixed_of [] boxes = []
fixed_of (i ∷ is) boxes =
    cond (is_put i boxes) (read_of i boxes ∷ fixed_of is boxes) (fixed_of is boxes)

-- the sizes at v, added up
abbrev pub load_of : ℤ → List (ℤ × ℤ × ℤ) → ℤ
load_of v [] = pos 0
load_of v (p ∷ ps) = cond (int_eq p.0 v) (p.1 +ℤ load_of v ps) (load_of v ps)

-- the load is more than some room of the first list
abbrev pub some_over : List (ℤ × ℤ × ℤ) → List (ℤ × ℤ × ℤ) → Bool
some_over [] row = false
some_over (p ∷ ps) row = int_lt p.2 (load_of p.0 row) || some_over ps row
