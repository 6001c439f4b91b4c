-- Which tokens begin a model, and where a list of tokens stops to begin one, in words of plain
-- trees and their tokens alone.
use Rattle.std.specs.Prelude.{◌≡◌, ◌≤◌, ℕ, List, [], ◌∷◌, ◌++◌}
use Rattle.conf_syntax.specs.declared.token.Token.{Token}
use Rattle.conf_syntax.specs.Plain.{Program, program_tokens, IsProgram, nesting}

-- the tokens are those of a model with at most so much nesting
abbrev pub IsProgramIn : ℕ → List Token → Program → Type 0
IsProgramIn most tokens p = IsProgram p × (nesting p ≤ most) × (tokens ≡ program_tokens p)

-- the tokens begin a model
abbrev pub IsBegun : List Token → Type 0
IsBegun front =
    (p : Program) × (back : List Token) × IsProgram p × (program_tokens p ≡ front ++ back)

-- the tokens begin a model with at most so much nesting
abbrev pub IsBegunIn : ℕ → List Token → Type 0
IsBegunIn most front =
    (p : Program) × (back : List Token) × IsProgram p × (nesting p ≤ most)
    × (program_tokens p ≡ front ++ back)

-- with the next token the front begins no model; where none is left, it is none
abbrev pub IsRefused : List Token → List Token → Type 0
IsRefused front [] = (p : Program) → IsProgram p → program_tokens p ≡ front → ⊥
IsRefused front (token ∷ rest) = IsBegun (front ++ (token ∷ [])) → ⊥

-- with the next token the front begins a model, but none with so little nesting
abbrev pub IsTooDeep : ℕ → List Token → List Token → Type 0
IsTooDeep most front [] = ⊥
IsTooDeep most front (token ∷ rest) =
    IsBegun (front ++ (token ∷ [])) × (IsBegunIn most (front ++ (token ∷ [])) → ⊥)
