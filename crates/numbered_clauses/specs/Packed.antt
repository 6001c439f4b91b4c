-- Packed clauses by number. What a reader believes after this file: which clauses bytes and places
-- stand for, and when a place in bytes stands for a clause whatever is added behind.
use Rattle.std.specs.Prelude.{◌≡◌, ℕ, ◌≤◌, List, [], ◌∷◌, ◌++◌, length, take, drop}
use Rattle.std.specs.List.{All}
use Rattle.signed_clause.specs.Clauses.{Literals, IsClause}
use Rattle.numbered_clauses.specs.Coded.{clause_in}

-- the clauses that stand at places
abbrev pub clauses_at : List ℕ → List ℕ → List Literals
clauses_at bytes [] = []
clauses_at bytes (p ∷ ps) = clause_in (drop p bytes) ∷ clauses_at bytes ps

-- a clause stands at the place, and no byte behind the last one is looked at
pub record IsWhole (bytes : List ℕ) (place : ℕ) : Type 0 where
  pub within : place ≤ length bytes
  pub form : IsClause (clause_in (drop place bytes))
  pub same : (more : List ℕ) → clause_in (drop place bytes ++ more) ≡ clause_in (drop place bytes)

abbrev pub AreWhole : List ℕ → List ℕ → Type 0
AreWhole bytes places = All (λ place. IsWhole bytes place) places

-- the text stands at the place
pub record StandsAt (bytes : List ℕ) (place : ℕ) (text : List ℕ) : Type 0 where
  pub within : place ≤ length bytes
  pub found : take (length text) (drop place bytes) ≡ text

-- the bytes are the old ones, and maybe more behind them
abbrev pub HasGrown : List ℕ → List ℕ → Type 0
HasGrown old new = take (length old) new ≡ old
