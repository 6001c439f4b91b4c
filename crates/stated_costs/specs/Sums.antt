-- Sums by the value of an index. What a reader believes after this file: how great a sum is at
-- most where the index is in a set.
use Rattle.std.specs.Prelude.{◌≡◌, ℕ, true, List, ℤ, pos, ◌≤ℤ◌}
use Rattle.signed_clause.specs.Ranges.{Ranges, has}
use Rattle.ground_form.specs.declared.ground.Ground.{Ground}
use Rattle.ground_form.specs.Meaning.{value_of, sum_at}
use Rattle.form_build.specs.declared.form.Linear.{Linear}
use Rattle.form_build.specs.Forms.{linear_at}
use Rattle.form_build.specs.Worlds.{IsWorld, AllHold}

-- where x has a value of the set the terms add up to at most so much
abbrev pub IsMostWhere : Ground → ℕ → Ranges → List (ℤ × ℕ) → ℤ → Type 0
IsMostWhere g x at ts n =
    (a : List ℤ) → IsWorld g a → AllHold g a → has at (value_of a x) ≡ true → sum_at ts a ≤ℤ n

-- where x has a value of the set the sum is at most 0
abbrev pub IsBelowWhere : Ground → ℕ → Ranges → Linear → Type 0
IsBelowWhere g x at f =
    (a : List ℤ) → IsWorld g a → AllHold g a → has at (value_of a x) ≡ true →
    linear_at f a ≤ℤ pos 0
