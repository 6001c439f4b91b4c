-- The domains of the variables that a builder defines.
use Rattle.std.specs.Prelude.{ℕ, Bool, false, ◌||◌, cond, List, [], ◌∷◌, ℤ, pos, ◌+ℤ◌}
use Rattle.signed_clause.specs.Ranges.{Ranges, is_nil}
use Rattle.signed_clause.specs.SetAlgebra.{join}
use Rattle.signed_clause.specs.Clauses.{Boxes, box_of}
use Rattle.ground_form.specs.Bounds.{least_sum, greatest_sum}

-- the values of a flag
abbrev pub truth_values : Ranges
truth_values = (pos 0, pos 1) ∷ []

-- some term's variable has an empty box
abbrev pub some_empty : List (ℤ × ℕ) → Boxes → Bool
some_empty [] boxes = false
some_empty (t ∷ ts) boxes = is_nil (box_of boxes t.1) || some_empty ts boxes

-- from the least to the greatest sum, with the offset; empty where a term's box is
abbrev pub linear_domain : List (ℤ × ℕ) → ℤ → Boxes → Ranges
linear_domain terms offset boxes =
    cond (some_empty terms boxes) []
    ((least_sum terms boxes +ℤ offset, greatest_sum terms boxes +ℤ offset) ∷ [])

-- the boxes of the items' variables, joined to what is made so far
abbrev pub picked_domain : Ranges → List (ℤ × ℕ) → Boxes → Ranges
picked_domain made [] boxes = made
picked_domain made (t ∷ ts) boxes = picked_domain (join made (box_of boxes t.1)) ts boxes

-- the item's box and 0
abbrev pub when_domain : ℕ → Boxes → Ranges
when_domain item boxes = join (box_of boxes item) ((pos 0, pos 0) ∷ [])
