-- The literal of a flag in an explanation.
use Rattle.std.specs.Prelude.{◌≡◌, ℕ, Bool, true, false, List, [], ◌∷◌, ◌++◌, ℤ, length, ◌⊎◌}
use Rattle.signed_clause.specs.Ranges.{has}
use Rattle.signed_clause.specs.SetAlgebra.{is_within}
use Rattle.signed_clause.specs.Clauses.{Boxes, Literals, box_of}

-- the literals with that of the flag, where its domain has the value
abbrev pub with_flag : Literals → ℕ → ℤ → Bool → Literals
with_flag out x v true = out ++ (x, (v, v) ∷ []) ∷ []
with_flag out x v false = out

-- the flag's box lacks the value; or no term is pruned, and the flag's box has another value too
abbrev pub IsOpposed : Boxes → ℕ → ℤ → ℕ → List (ℤ × ℕ) → Type 0
IsOpposed boxes x v index ts =
    (has (box_of boxes x) v ≡ false)
    ⊎ ((index ≡ length ts) × (is_within (box_of boxes x) ((v, v) ∷ []) ≡ false))
