-- Clauses by number. What a reader believes after this file: which clause a number stands for.
use Rattle.std.specs.Prelude.{ℕ, List, [], slice_index_or}
use Rattle.signed_clause.specs.Clauses.{Literals}

-- the clause of a number; the empty one where there is none
abbrev pub clause_at : List Literals → ℕ → Literals
clause_at clauses j = slice_index_or clauses j []
