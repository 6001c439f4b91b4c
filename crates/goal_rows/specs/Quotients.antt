-- Sums without a factor. What a reader believes after this file: which sum, so many times and with
-- which number, another one is.
use Rattle.std.specs.Prelude.{◌≡◌, ℕ, ◌^◌, ◌≤◌, List, ℤ, pos, ◌+ℤ◌, ◌*ℤ◌}
use Rattle.signed_clause.specs.Clauses.{Boxes}
use Rattle.ground_form.specs.declared.ground.Ground.{Ground}
use Rattle.ground_form.specs.Meaning.{value_of}
use Rattle.form_build.specs.declared.form.Linear.{Linear}
use Rattle.form_build.specs.Forms.{linear_at}
use Rattle.form_build.specs.Sums.{IsLinear}
use Rattle.form_build.specs.Worlds.{IsWorld, AllHold}
use Rattle.goal_rows.specs.declared.dividing.Quotient.{Quotient}

-- the sum is the other one so many times, and the number
pub record IsQuotient (boxes : Boxes) (f : Linear) (q : Quotient) : Type 0 where
  pub linear : IsLinear (2 ^ 19) boxes q.sum
  pub times : q.times ≤ 2 ^ 18
  pub value : (a : List ℤ) → linear_at f a ≡ (pos q.times *ℤ linear_at q.sum a) +ℤ q.rest

-- wherever all constraints hold the goal is the sum so many times, and the number
pub record IsGoalBy (g : Ground) (goal : ℕ) (q : Quotient) : Type 0 where
  pub linear : IsLinear (2 ^ 19) g.domains q.sum
  pub times : q.times ≤ 2 ^ 18
  pub value : (a : List ℤ) → IsWorld g a → AllHold g a → value_of a goal
      ≡ (pos q.times *ℤ linear_at q.sum a) +ℤ q.rest
