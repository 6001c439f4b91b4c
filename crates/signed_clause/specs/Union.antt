-- The values of ranges that stand in the order of their starts: those that overlap or touch are
-- fused. On two sets whose ranges are merged this is `join`.
use Rattle.std.specs.Prelude.{ℤ, pos, ◌+ℤ◌, cond, [], ◌∷◌, int_lt}
use Rattle.std.specs.Int.{int_max}
use Rattle.signed_clause.specs.Ranges.{Ranges}

-- low..high and the ranges behind it, fused; none of them begins below low
abbrev pub fuse : ℤ → ℤ → Ranges → Ranges
fuse low high [] = (low, high) ∷ []
fuse low high (s ∷ b) =
    cond (int_lt (high +ℤ pos 1) s.0) ((low, high) ∷ fuse s.0 s.1 b) (fuse low (int_max high s.1) b)

-- ranges in the order of their starts, fused
abbrev pub fused : Ranges → Ranges
fused [] = []
fused (r ∷ rs) = fuse r.0 r.1 rs
