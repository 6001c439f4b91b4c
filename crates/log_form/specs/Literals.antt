-- A literal put into a list of literals none of which comes before it.
use Rattle.std.specs.Prelude.{ℕ, cond, [], ◌∷◌, ◌==◌}
use Rattle.signed_clause.specs.Ranges.{Ranges}
use Rattle.signed_clause.specs.SetAlgebra.{join}
use Rattle.signed_clause.specs.Clauses.{Literals}

-- before the list, or joined with its first literal where that is of the same variable
abbrev pub joined_with : ℕ → Ranges → Literals → Literals
joined_with x s [] = (x, s) ∷ []
joined_with x s (l ∷ ls) = cond (l.0 == x) ((x, join l.1 s) ∷ ls) ((x, s) ∷ l ∷ ls)
