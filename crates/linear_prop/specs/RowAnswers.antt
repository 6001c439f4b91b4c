-- What a row answers: a pruning of its constraint, or nothing.
use Rattle.std.specs.Prelude.{ℕ, List, ℤ, ◌≤ℤ◌, Option, Some, None}
use Rattle.signed_clause.specs.Clauses.{Boxes, Literals}
use Rattle.ground_form.specs.declared.con.Con.{Con}
use Rattle.ground_form.specs.Bounds.{least_sum}
use Rattle.rule_law.specs.Answers.{IsPruning}
use Rattle.linear_prop.specs.Explaining.{IsTight}

-- nothing where the row has nothing to say
abbrev pub IsRowAnswer : Con → List (ℤ × ℕ) → ℤ → Boxes → Boxes → Option Literals → Type 0
IsRowAnswer con ts bound domains boxes None = IsTight ts boxes bound
IsRowAnswer con ts bound domains boxes (Some clause) = IsPruning con domains boxes clause

-- nothing where its least sum is within the bound
abbrev pub IsSumAnswer : Con → List (ℤ × ℕ) → ℤ → Boxes → Boxes → Option Literals → Type 0
IsSumAnswer con ts bound domains boxes None = least_sum ts boxes ≤ℤ bound
IsSumAnswer con ts bound domains boxes (Some clause) = IsPruning con domains boxes clause
