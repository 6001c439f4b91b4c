-- The ranges of two sets merged by their starts in one walk, with one that is pending.
use Rattle.std.specs.Prelude.{ℤ, cond, [], ◌∷◌, int_le, Option, Some, None}
use Rattle.signed_clause.specs.Ranges.{Ranges}
use Rattle.signed_clause.specs.Union.{fuse, fused}

-- `r ∷ a` and the ranges, merged, where `rest` merges a with what is left of them
abbrev pub merge_from : (Ranges → Ranges) → ℤ × ℤ → Ranges → Ranges
merge_from rest r [] = r ∷ rest []
merge_from rest r (s ∷ b) = cond (int_le r.0 s.0) (r ∷ rest (s ∷ b)) (s ∷ merge_from rest r b)

-- the ranges of both lists in the order of their starts
abbrev pub merge : Ranges → Ranges → Ranges
merge [] b = b
merge (r ∷ a) b = merge_from (merge a) r b

-- the ranges fused, behind a pending one where there is one
abbrev pub fuse_pending : Option (ℤ × ℤ) → Ranges → Ranges
fuse_pending None rs = fused rs
fuse_pending (Some p) rs = fuse p.0 p.1 rs
