-- The terms of a row, and how far they can rise. What a reader believes after this file: a row's
-- terms are those of its list, or these with their signs turned, behind the one that stands before
-- them.
use Rattle.std.specs.Prelude.{ℕ, Bool, true, false, List, [], ◌∷◌, ℤ, pos, ◌-ℤ◌, Option, Some, None}
use Rattle.std.specs.Int.{int_max}
use Rattle.signed_clause.specs.Clauses.{Boxes}
use Rattle.ground_form.specs.Bounds.{least_term, greatest_term}
use Rattle.linear_prop.specs.declared.row.Row.{Row}

-- a term, or it with its sign turned
abbrev pub turned : Bool → ℤ × ℕ → ℤ × ℕ
turned false t = t
turned true t = (pos 0 -ℤ t.0, t.1)

-- a list of terms with their signs turned
abbrev pub negated : List (ℤ × ℕ) → List (ℤ × ℕ)
negated [] = []
negated (t ∷ ts) = (pos 0 -ℤ t.0, t.1) ∷ negated ts

-- a list of terms, or it with the signs turned
abbrev pub all_turned : Bool → List (ℤ × ℕ) → List (ℤ × ℕ)
all_turned false ts = ts
all_turned true ts = negated ts

-- the list behind a term, where there is one
abbrev pub behind : Option (ℤ × ℕ) → List (ℤ × ℕ) → List (ℤ × ℕ)
behind None ts = ts
behind (Some t) ts = t ∷ ts

-- the terms of a row
abbrev pub terms_of : Row → List (ℤ × ℕ)
terms_of row = behind row.head (all_turned row.turned row.terms.now)

-- how far a term can rise above its least
abbrev pub spread_of : ℤ × ℕ → Boxes → ℤ
spread_of t boxes = greatest_term t boxes -ℤ least_term t boxes

-- the greatest of these, 0 where there is no term
abbrev pub greatest_spread : List (ℤ × ℕ) → Boxes → ℤ
greatest_spread [] boxes = pos 0
greatest_spread (t ∷ ts) boxes = int_max (spread_of t boxes) (greatest_spread ts boxes)
