-- Items of bounded numbers. What a reader believes after this file: how much of so much is left
-- without an item's greatest size.
use Rattle.std.specs.Prelude.{◌≡◌, ℕ, pos, ◌+ℤ◌, ◌≤ℤ◌}
use Rattle.signed_clause.specs.Clauses.{Boxes, box_of}
use Rattle.ground_form.specs.Bounds.{low_of, high_of, LiesWithin, last_bin}

-- a row's place and size are small, and so much is left without its greatest size
pub record IsSmallRow (boxes : Boxes) (r : ℕ × ℕ × ℕ) (left rest : ℕ) : Type 0 where
  pub place : LiesWithin (pos 0) (pos last_bin) (box_of boxes r.0)
  pub size : pos 0 ≤ℤ low_of (box_of boxes r.1)
  pub left_is : (high_of (box_of boxes r.1) +ℤ pos rest) ≡ pos left
