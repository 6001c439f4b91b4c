-- One step of a chain, and which variables clauses may have.
use Rattle.std.specs.Prelude.{◌≡◌, ℕ, Bool, true, ◌&&◌, List, length, nat_lt}
use Rattle.signed_clause.specs.Clauses.{Literals, has_var}
use Rattle.ground_form.specs.Meaning.{clause_vars}
use Rattle.log_form.specs.Acceptance.{clause_at, vars_below}

-- the step's clause was made before, and both have its variable
abbrev pub step_holds : List Literals → Literals → ℕ × ℕ → Bool
step_holds cs c s = nat_lt s.1 (length cs) && (has_var c s.0 && has_var (clause_at cs s.1) s.0)

-- each clause has variables among the first n alone
abbrev pub AreBelow : ℕ → List Literals → Type 0
AreBelow n cs = (j : ℕ) → vars_below n (clause_vars (clause_at cs j)) ≡ true
