-- Which tokens begin a model, and where a list of tokens stops to begin one.
use Rattle.std.specs.Prelude.{◌≡◌, ◌≤◌, ℕ, true, List, [], ◌∷◌, ◌++◌}
use Rattle.conf_syntax.specs.declared.token.Token.{Token}
use Rattle.conf_syntax.specs.declared.tree.Program.{Program}
use Rattle.conf_syntax.specs.Trees.{program_tokens, program_fits, nesting}

-- the tokens begin a model
abbrev pub IsBegun : List Token → Type 0
IsBegun front =
    (p : Program) × (back : List Token) × (program_fits p ≡ true)
    × (program_tokens p ≡ front ++ back)

-- the tokens begin a model with at most so much nesting
abbrev pub IsBegunIn : ℕ → List Token → Type 0
IsBegunIn most front =
    (p : Program) × (back : List Token) × (program_fits p ≡ true) × (nesting p ≤ most)
    × (program_tokens p ≡ front ++ back)

-- with the next token the front begins no model; where none is left, it is none
abbrev pub IsRefused : List Token → List Token → Type 0
IsRefused front [] = (p : Program) → program_fits p ≡ true → program_tokens p ≡ front → ⊥
IsRefused front (token ∷ rest) = IsBegun (front ++ (token ∷ [])) → ⊥

-- with the next token the front begins a model, but none with so little nesting
abbrev pub IsTooDeep : ℕ → List Token → List Token → Type 0
IsTooDeep most front [] = ⊥
IsTooDeep most front (token ∷ rest) =
    IsBegun (front ++ (token ∷ [])) × (IsBegunIn most (front ++ (token ∷ [])) → ⊥)
