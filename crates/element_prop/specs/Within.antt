-- When it has to be said that the flag is 0 or a variable has a value that another's box has.
use Rattle.std.specs.Prelude.{◌≡◌, ℕ, true, false, [], ◌∷◌, pos, ◌⊎◌}
use Rattle.signed_clause.specs.Ranges.{Ranges, has}
use Rattle.signed_clause.specs.SetAlgebra.{is_disjoint, is_within, less}
use Rattle.signed_clause.specs.Clauses.{Boxes, Literals, box_of}

-- the flag can be 1 though the boxes have no common value, or has to be 1 though the one box isn't
-- inside the other
abbrev pub HasToLie : Ranges → Ranges → Ranges → Type 0
HasToLie flags box other =
    ((has flags (pos 1) ≡ true) × (is_disjoint box other ≡ true)) ⊎ ((has flags (pos 0) ≡ false)
    × (is_within box other ≡ false))

-- what its clause leaves: the flag 1, of x what y's box hasn't, of y its box
abbrev pub within_plan : Boxes → Boxes → ℕ → ℕ → ℕ → Literals
within_plan domains boxes f x y =
    (f, (pos 1, pos 1) ∷ []) ∷ (x, less (box_of domains x) (box_of boxes y)) ∷ (y, box_of boxes y)
    ∷ []
