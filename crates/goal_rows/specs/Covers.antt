-- Flags that ask about the values of a variable. What a reader believes after this file: one less
-- the flags is at most 1 where the value is one that is left, and else at most 0.
use Rattle.std.specs.Prelude.{◌^◌, ℕ, List, ℤ, ◌≤ℤ◌}
use Rattle.signed_clause.specs.Ranges.{has}
use Rattle.ground_form.specs.declared.ground.Ground.{Ground}
use Rattle.ground_form.specs.Meaning.{value_of, bit}
use Rattle.form_build.specs.Forms.{linear_at}
use Rattle.form_build.specs.Sums.{IsLinear}
use Rattle.form_build.specs.Worlds.{IsWorld, AllHold}
use Rattle.goal_rows.specs.declared.covers.Cover.{Cover}

pub record IsCover (g : Ground) (x : ℕ) (c : Cover) : Type 0 where
  pub linear : IsLinear (2 ^ 20) g.domains c.sum
  pub bound : (a : List ℤ) → IsWorld g a → AllHold g a →
      linear_at c.sum a ≤ℤ bit (has c.rest (value_of a x))
