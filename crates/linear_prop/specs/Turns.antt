-- One turn of the walk that explains a row.
use Rattle.std.specs.Prelude.{ℕ, [], ◌∷◌, ◌++◌, Option, Some, None}
use Rattle.signed_clause.specs.Ranges.{Ranges}
use Rattle.signed_clause.specs.Clauses.{Literals}

-- the literals with one more, where there is a set
abbrev pub with_literal : Literals → ℕ → Option Ranges → Literals
with_literal out x None = out
with_literal out x (Some set) = out ++ (x, set) ∷ []
