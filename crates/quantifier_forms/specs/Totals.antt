-- Sums that are added up. What a reader believes after this file: how large the sums may be that
-- are to be added up, however they are grouped.
use Rattle.std.specs.Prelude.{◌^◌, List, ℤ, pos, neg_ℤ, ◌*ℤ◌, ◌≤ℤ◌, length}
use Rattle.std.specs.List.{All}
use Rattle.model_limits.specs.Limits.{most_width}
use Rattle.signed_clause.specs.Clauses.{Boxes}
use Rattle.form_build.specs.declared.form.Linear.{Linear}
use Rattle.form_build.specs.Sums.{IsSum}

-- each of the sums lies in one interval that has 0, and that many times the interval is narrow
pub record AreSummands (boxes : Boxes) (fs : List Linear) : Type 0 where
  pub low : ℤ
  pub high : ℤ
  pub below : low ≤ℤ pos 0
  pub above : pos 0 ≤ℤ high
  pub sums : All (IsSum boxes low high) fs
  pub narrow_low : neg_ℤ (pos most_width) ≤ℤ (pos (length fs) *ℤ low)
  pub narrow_high : (pos (length fs) *ℤ high) ≤ℤ pos most_width
