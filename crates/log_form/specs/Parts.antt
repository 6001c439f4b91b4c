-- How much of a Bound line's clauses is told apart.
use Rattle.std.specs.Prelude.{ℕ, ◌+◌, length, sum_by}
use Rattle.signed_clause.specs.Clauses.{Literals}

-- how many literals and ranges a clause has
abbrev pub clause_parts : Literals → ℕ
clause_parts c = sum_by (λ l. 1 + length l.1) c
