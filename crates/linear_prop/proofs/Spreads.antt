-- Products at the ends of a set.
use Rattle.std.proofs.Common.{◌≡◌, ℕ, ◌*◌, ◌<◌, ◌≤◌, ◌^◌, ℤ, ◌*ℤ◌, unsigned_abs, arith, refl}
use Rattle.std.specs.Int.{int_min, int_max}
use Rattle.std.proofs.Math.Nat.{mul-le-mul_left}
use Rattle.signed_clause.specs.Ranges.{Ranges}
use Rattle.signed_clause.specs.Clauses.{Boxes, box_of}
use Rattle.ground_form.specs.Bounds.{low_of, high_of, reach_of, least_term, greatest_term, term_weight}

pub end_fits : (c e : ℤ) (s : Ranges) → unsigned_abs e ≤ reach_of s → unsigned_abs c * reach_of s ≤ 2 ^ 61 → unsigned_abs c * unsigned_abs e < 2 ^ 63
end_fits c e s h w =
    let m : unsigned_abs c * unsigned_abs e ≤ unsigned_abs c * reach_of s = mul-le-mul_left (unsigned_abs c) h in
    omega arith

pub least_is : (t : ℤ × ℕ) (boxes : Boxes) → int_min (t.0 *ℤ low_of (box_of boxes t.1)) (t.0 *ℤ high_of (box_of boxes t.1)) ≡ least_term t boxes
unfolding least_term
least_is t boxes = refl

pub greatest_is : (t : ℤ × ℕ) (boxes : Boxes) → int_max (t.0 *ℤ low_of (box_of boxes t.1)) (t.0 *ℤ high_of (box_of boxes t.1)) ≡ greatest_term t boxes
unfolding greatest_term
greatest_is t boxes = refl

pub weight_is : (t : ℤ × ℕ) (boxes : Boxes) → term_weight t boxes ≡ unsigned_abs t.0 * reach_of (box_of boxes t.1)
unfolding term_weight
weight_is t boxes = refl
