-- The least sum is no more than the greatest.
use Rattle.std.proofs.Common.{ℕ, List, [], ◌∷◌, ℤ, ◌*ℤ◌, ◌≤ℤ◌, arith}
use Rattle.std.specs.Int.{int_min, int_max}
use Rattle.std.proofs.lemmas.Int.{ints, clamps}
use Rattle.signed_clause.specs.Clauses.{Boxes, box_of}
use Rattle.ground_form.specs.Bounds.{low_of, high_of, least_term, greatest_term, least_sum, greatest_sum}

min_max : (x y : ℤ) → int_min x y ≤ℤ int_max x y
min_max x y = omega (arith, ints, clamps)

term_ordered : (t : ℤ × ℕ) (boxes : Boxes) → least_term t boxes ≤ℤ greatest_term t boxes
unfolding least_term greatest_term
term_ordered t boxes = min_max (t.0 *ℤ low_of (box_of boxes t.1)) (t.0 *ℤ high_of (box_of boxes t.1))

pub sums_ordered : (ts : List (ℤ × ℕ)) (boxes : Boxes) → least_sum ts boxes ≤ℤ greatest_sum ts boxes
sums_ordered [] boxes = omega (arith, ints)
sums_ordered (t ∷ ts) boxes = let first = term_ordered t boxes in let rest = sums_ordered ts boxes in omega (arith, ints)
