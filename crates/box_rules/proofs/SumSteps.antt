-- One term over a view whose boxes reach no further than the outer ones.
use Rattle.std.proofs.Common.{◌≡◌, ◌<◌, ℕ, ◌+◌, ◌*◌, ◌≤◌, ◌^◌, ℤ, pos, ◌*ℤ◌, unsigned_abs, List, length, get_or, drop, drop-cons, add-one, arith, refl, ◌∙◌}
use Rattle.std.specs.Int.{int_min, int_max}
use Rattle.std.proofs.Math.Nat.{mul-le-mul_left}
use Rattle.signed_clause.specs.Clauses.{Boxes, box_of}
use Rattle.ground_form.specs.Bounds.{low_of, high_of, reach_of, least_term, greatest_term, term_weight, weight_of}
use Rattle.ground_form.proofs.Weights.{least_term_fits, greatest_term_fits}

-- a narrower box weighs no more
pub weight_narrower : (t : ℤ × ℕ) (boxes outer : Boxes) → reach_of (box_of boxes t.1) ≤ reach_of (box_of outer t.1) → term_weight t boxes ≤ term_weight t outer
unfolding term_weight
weight_narrower t boxes outer h = mul-le-mul_left (unsigned_abs t.0) h

-- a coefficient times an end of the box fits
pub end_fits : (t : ℤ × ℕ) (boxes outer : Boxes) (e : ℤ) → unsigned_abs e ≤ reach_of (box_of boxes t.1) → reach_of (box_of boxes t.1) ≤ reach_of (box_of outer t.1) →
    term_weight t outer ≤ 2 ^ 60 → unsigned_abs t.0 * unsigned_abs e < 2 ^ 63
unfolding term_weight
end_fits t boxes outer e h k w =
    let le : unsigned_abs e ≤ reach_of (box_of outer t.1) = omega arith in
    let m : unsigned_abs t.0 * unsigned_abs e ≤ unsigned_abs t.0 * reach_of (box_of outer t.1) = mul-le-mul_left (unsigned_abs t.0) le in
    omega arith

pub least_term_is : (t : ℤ × ℕ) (boxes : Boxes) (low high : ℤ) → low ≡ low_of (box_of boxes t.1) → high ≡ high_of (box_of boxes t.1) →
    int_min (t.0 *ℤ low) (t.0 *ℤ high) ≡ least_term t boxes
unfolding least_term
least_term_is t boxes low high e f = rw (e, f) refl

pub greatest_term_is : (t : ℤ × ℕ) (boxes : Boxes) (low high : ℤ) → low ≡ low_of (box_of boxes t.1) → high ≡ high_of (box_of boxes t.1) →
    int_max (t.0 *ℤ low) (t.0 *ℤ high) ≡ greatest_term t boxes
unfolding greatest_term
greatest_term_is t boxes low high e f = rw (e, f) refl

pub least_fits : (t : ℤ × ℕ) (boxes outer : Boxes) (low high r : ℤ) → r ≡ int_min (t.0 *ℤ low) (t.0 *ℤ high) → low ≡ low_of (box_of boxes t.1) → high ≡ high_of (box_of boxes t.1) →
    reach_of (box_of boxes t.1) ≤ reach_of (box_of outer t.1) → unsigned_abs r ≤ term_weight t outer
least_fits t boxes outer low high r d e f h =
    let is : r ≡ least_term t boxes = d ∙ least_term_is t boxes low high e f in
    let fits = least_term_fits t boxes in let more = weight_narrower t boxes outer h in
    rw is (omega arith)

pub greatest_fits : (t : ℤ × ℕ) (boxes outer : Boxes) (low high r : ℤ) → r ≡ int_max (t.0 *ℤ low) (t.0 *ℤ high) → low ≡ low_of (box_of boxes t.1) → high ≡ high_of (box_of boxes t.1) →
    reach_of (box_of boxes t.1) ≤ reach_of (box_of outer t.1) → unsigned_abs r ≤ term_weight t outer
greatest_fits t boxes outer low high r d e f h =
    let is : r ≡ greatest_term t boxes = d ∙ greatest_term_is t boxes low high e f in
    let fits = greatest_term_fits t boxes in let more = weight_narrower t boxes outer h in
    rw is (omega arith)

-- the sum of what is done and what is left
pub weight_left : (ts : List (ℤ × ℕ)) (boxes : Boxes) (i : ℕ) → i < length ts →
    weight_of (drop i ts) boxes ≡ term_weight (get_or ts i (pos 0, 0)) boxes + weight_of (drop (i + 1) ts) boxes
weight_left ts boxes i h = rw (add-one, drop-cons ts i (pos 0, 0)) refl
