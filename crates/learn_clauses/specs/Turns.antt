-- The walk by the code's steps. What a reader believes after this file: nothing that a public
-- contract needs; it says what one entry does to the walk, and what the walk has to begin with.
use Rattle.std.specs.Prelude.{◌≡◌, ℕ, ◌<◌, ◌≤◌, Bool, true, not, ◌&&◌, cond, List, [], ◌∷◌, ◌++◌, Option, Some, None, is_none, length}
use Rattle.std.specs.List.{All}
use Rattle.signed_clause.specs.SetAlgebra.{is_disjoint}
use Rattle.signed_clause.specs.Clauses.{Boxes, Literals, set_of, has_var, false_in, resolvent, IsClause, IsWithinBoxes}
use Rattle.fd_store.specs.declared.trail.Moved.{Moved}
use Rattle.fd_store.specs.Levels.{Stack}
use Rattle.learn_clauses.specs.Walk.{clause_at}
use Rattle.learn_clauses.specs.Learnt.{domains_of, CameFrom, IsWithinDomains}

-- the clause is false before the entry too, so the entry is passed over
abbrev pub is_passed : Moved → Literals → Bool
is_passed m c = is_disjoint (set_of c m.var) m.before

-- the walk ends at the entry
abbrev pub ends_at : Moved → Literals → Bool
ends_at m c = not (is_passed m c) && is_none m.from

-- the clause and the steps behind an entry that isn't passed over
abbrev pub clause_by : Option ℕ → List Literals → ℕ → Literals → Literals
clause_by None clauses x c = c
clause_by (Some j) clauses x c = resolvent x c (clause_at clauses j)

abbrev pub steps_by : Option ℕ → ℕ → List (ℕ × ℕ) → List (ℕ × ℕ)
steps_by None x steps = steps
steps_by (Some j) x steps = steps ++ (x, j) ∷ []

-- the clause and the steps behind an entry
abbrev pub next_clause : List Literals → Moved → Literals → Literals
next_clause clauses m c = cond (is_passed m c) c (clause_by m.from clauses m.var c)

abbrev pub next_steps : Moved → Literals → List (ℕ × ℕ) → List (ℕ × ℕ)
next_steps m c steps = cond (is_passed m c) steps (steps_by m.from m.var steps)

-- the number is a clause's, and where it is a clause its variables have sets in the table
pub record IsReadable (clauses : List Literals) (j : ℕ) (sets : Boxes) : Type 0 where
  pub exists : j < length clauses
  pub vars : IsClause (clause_at clauses j) → IsWithinBoxes (clause_at clauses j) sets

-- c and clause j can be resolved on x in the table
pub record IsResolvable (clauses : List Literals) (c : Literals) (x j : ℕ) (sets : Boxes) : Type 0
  where
    pub readable : IsReadable clauses j sets
    pub first : has_var c x ≡ true
    pub second : has_var (clause_at clauses j) x ≡ true

-- what a walk from clause n over the levels begins with, in a table of so many variables
pub record IsStart (clauses : List Literals) (s : Stack) (count n : ℕ) : Type 0 where
  pub room : length s.top.now ≤ count
  pub exists : n < length clauses
  pub is_false : false_in s.top.now (clause_at clauses n) ≡ true
  pub within : All (λ c. IsWithinDomains (domains_of s) c) clauses
  pub came : CameFrom clauses s
