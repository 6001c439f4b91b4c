-- Products that fit. What a reader believes after this file: how large the values of a sum may be
-- that is multiplied by a number.
use Rattle.std.specs.Prelude.{ℤ, ◌*◌, ◌≤◌, ◌^◌, unsigned_abs}
use Rattle.model_limits.specs.Limits.{most_width}
use Rattle.signed_clause.specs.Clauses.{Boxes}
use Rattle.form_build.specs.declared.form.Linear.{Linear}
use Rattle.form_build.specs.Sums.{least_linear, greatest_linear}

-- the number times the ends of the sum is at most 2 ^ 50 away from 0
pub record AreNearProducts (c : ℤ) (boxes : Boxes) (f : Linear) : Type 0 where
  pub least : unsigned_abs c * unsigned_abs (least_linear f boxes) ≤ most_width
  pub greatest : unsigned_abs c * unsigned_abs (greatest_linear f boxes) ≤ most_width
