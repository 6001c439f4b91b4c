-- Boxes that are single values. What a reader believes after this file: what it is for a box to be
-- a single value, and which values such boxes hold.
use Rattle.std.specs.Prelude.{◌≡◌, List, [], ◌∷◌, ℤ}
use Rattle.signed_clause.specs.Ranges.{Ranges}
use Rattle.signed_clause.specs.Clauses.{Boxes}
use Rattle.ground_form.specs.Bounds.{low_of}

-- the set is one value
abbrev pub IsSingle : Ranges → Type 0
IsSingle s = (v : ℤ) × (s ≡ (v, v) ∷ [])

-- the least value of each box, which is its only one where it is single
abbrev pub least_values : Boxes → List ℤ
least_values [] = []
least_values (b ∷ boxes) = low_of b ∷ least_values boxes
