-- Sums by a quotient of their terms, and goals by it.
use Rattle.std.proofs.Common.{◌≡◌, ℕ, ◌^◌, ◌≤◌, List, [], ℤ, pos, ◌+ℤ◌, ◌-ℤ◌, ◌*ℤ◌, length, sym, ap, ◌∙◌, subst, arith, ◌<◌}
use Rattle.std.proofs.lemmas.Int.{ints}
use Rattle.signed_clause.specs.Clauses.{box_of}
use Rattle.signed_clause.specs.Ranges.{Ranges}
use Rattle.ground_form.specs.Bounds.{reach_of}
use Rattle.ground_form.specs.declared.ground.Ground.{Ground}
use Rattle.ground_form.specs.Meaning.{value_of, sum_at}
use Rattle.form_build.specs.declared.form.Linear.{Linear}
use Rattle.form_build.specs.Forms.{linear_at}
use Rattle.form_build.specs.Worlds.{IsWorld, AllHold, Grows}
use Rattle.form_build.proofs.Growth.{world_before, all_before, box_kept}
use Rattle.form_build.proofs.Keeping.{linear_kept}
use Rattle.goal_rows.specs.declared.dividing.Quotient.{Quotient}
use Rattle.goal_rows.specs.Quotients.{IsGoalBy}

-- a sum by a quotient of its terms
pub quotient_value : (f whole rest sum : Linear) (n : ℕ) (a : List ℤ) → rest.terms ≡ [] → linear_at whole a ≡ (pos n *ℤ linear_at sum a) → linear_at rest a ≡ (linear_at f a -ℤ linear_at whole a) → linear_at f a ≡ ((pos n *ℤ linear_at sum a) +ℤ rest.offset)
quotient_value f whole rest sum n a none times less =
    let nil = ap (λ (z : List (ℤ × ℕ)). sum_at z a) none in
    omega (arith, ints, nil, times, less)

-- ---- a goal by a quotient

pub near_kept : (old new : Ground) (x : ℕ) → Grows old new → x < length old.domains → reach_of (box_of old.domains x) ≤ 2 ^ 19 → reach_of (box_of new.domains x) ≤ 2 ^ 19
near_kept old new x g lt h = subst (λ (z : Ranges). reach_of z ≤ 2 ^ 19) (sym (box_kept old new x g lt)) h

pub goal_kept : (old new : Ground) (goal : ℕ) (q : Quotient) → Grows old new → IsGoalBy old goal q → IsGoalBy new goal q
goal_kept old new goal q g h = record {
  linear = linear_kept (2 ^ 19) old new q.sum g h.linear;
  times = h.times;
  value = λ a w all. h.value a (world_before old new a g w) (all_before old new a g all);
}

-- by the variable of the sum
pub goal_by_own : (g : Ground) (goal own : ℕ) (q : Quotient) → IsGoalBy g goal q → ((a : List ℤ) → IsWorld g a → value_of a own ≡ linear_at q.sum a) → (a : List ℤ) → IsWorld g a → AllHold g a → value_of a goal ≡ ((pos q.times *ℤ value_of a own) +ℤ q.rest)
goal_by_own g goal own q h is a w all = h.value a w all ∙ ap (λ (v : ℤ). (pos q.times *ℤ v) +ℤ q.rest) (sym (is a w))
