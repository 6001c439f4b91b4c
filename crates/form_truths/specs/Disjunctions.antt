-- Disjunctions in the making. What a reader believes after this file: when a disjunction holds, and
-- what it is with a literal more.
use Rattle.std.specs.Prelude.{ℕ, ◌<◌, Bool, ◌||◌, cond, List, [], ◌∷◌, ℤ, nat_lt}
use Rattle.std.specs.List.{All}
use Rattle.signed_clause.specs.Ranges.{Ranges}
use Rattle.signed_clause.specs.SetAlgebra.{join}
use Rattle.signed_clause.specs.Clauses.{Literals, clause_true}

-- the literals with one more: sets of one variable are joined
abbrev pub with_literal : ℕ → Ranges → Literals → Literals
with_literal x s [] = (x, s) ∷ []
with_literal x s (l ∷ ls) =
    cond (nat_lt l.0 x) (l ∷ with_literal x s ls) (cond (nat_lt x l.0) ((x, s) ∷ l ∷ ls)
    ((l.0, join l.1 s) ∷ ls))

-- whether the disjunction holds: some part that is no literal does, or some literal
abbrev pub disjunction_at : Bool × Literals → List ℤ → Bool
disjunction_at d a = d.0 || clause_true d.1 a

-- the literals' variables are among the first n
abbrev pub IsWithin : ℕ → Literals → Type 0
IsWithin n ls = All (λ l. l.0 < n) ls

-- how many literals a block of a long disjunction has
abbrev pub block : ℕ
block = 32
