-- Terms and sums within their weights.
use Rattle.std.proofs.Common.{◌≡◌, ℕ, ◌+◌, ◌*◌, ◌≤◌, ℤ, pos, ◌+ℤ◌, ◌*ℤ◌, unsigned_abs, List, length, get_or, drop, drop-cons, add-one, ◌<◌, arith, refl}
use Rattle.std.specs.Int.{int_min, int_max}
use Rattle.std.proofs.lemmas.Int.{unsigned_abs-mul}
use Rattle.std.proofs.Math.Nat.{mul-le-mul_left}
use Rattle.signed_clause.specs.Clauses.{Boxes, box_of}
use Rattle.ground_form.specs.Bounds.{low_of, high_of, reach_of, least_term, greatest_term, term_weight, weight_of, least_sum, greatest_sum}

abs_min : (x y : ℤ) (n : ℕ) → unsigned_abs x ≤ n → unsigned_abs y ≤ n → unsigned_abs (int_min x y) ≤ n
abs_min x y n h k = grind arith

abs_max : (x y : ℤ) (n : ℕ) → unsigned_abs x ≤ n → unsigned_abs y ≤ n → unsigned_abs (int_max x y) ≤ n
abs_max x y n h k = grind arith

abs_times : (c v : ℤ) (n : ℕ) → unsigned_abs v ≤ n → unsigned_abs (c *ℤ v) ≤ unsigned_abs c * n
abs_times c v n h = let m : unsigned_abs c * unsigned_abs v ≤ unsigned_abs c * n = mul-le-mul_left (unsigned_abs c) h in rw unsigned_abs-mul m

pub least_term_fits : (t : ℤ × ℕ) (boxes : Boxes) → unsigned_abs (least_term t boxes) ≤ term_weight t boxes
unfolding least_term term_weight
least_term_fits t boxes =
    let s = box_of boxes t.1 in
    abs_min (t.0 *ℤ low_of s) (t.0 *ℤ high_of s) _ (abs_times t.0 (low_of s) (reach_of s) (omega arith)) (abs_times t.0 (high_of s) (reach_of s) (omega arith))

pub greatest_term_fits : (t : ℤ × ℕ) (boxes : Boxes) → unsigned_abs (greatest_term t boxes) ≤ term_weight t boxes
unfolding greatest_term term_weight
greatest_term_fits t boxes =
    let s = box_of boxes t.1 in
    abs_max (t.0 *ℤ low_of s) (t.0 *ℤ high_of s) _ (abs_times t.0 (low_of s) (reach_of s) (omega arith)) (abs_times t.0 (high_of s) (reach_of s) (omega arith))

-- one more term keeps within the weight
pub least_step : (ts : List (ℤ × ℕ)) (boxes : Boxes) (i : ℕ) → i < length ts →
    unsigned_abs (least_term (get_or ts i (pos 0, 0)) boxes) + weight_of (drop (i + 1) ts) boxes ≤ weight_of (drop i ts) boxes
least_step ts boxes i h =
    let t = get_or ts i (pos 0, 0) in
    let fits = least_term_fits t boxes in
    rw (add-one, drop-cons ts i (pos 0, 0)) (omega arith)

pub greatest_step : (ts : List (ℤ × ℕ)) (boxes : Boxes) (i : ℕ) → i < length ts →
    unsigned_abs (greatest_term (get_or ts i (pos 0, 0)) boxes) + weight_of (drop (i + 1) ts) boxes ≤ weight_of (drop i ts) boxes
greatest_step ts boxes i h =
    let t = get_or ts i (pos 0, 0) in
    let fits = greatest_term_fits t boxes in
    rw (add-one, drop-cons ts i (pos 0, 0)) (omega arith)

pub least_sum-drop : (ts : List (ℤ × ℕ)) (boxes : Boxes) (i : ℕ) → i < length ts →
    least_sum (drop i ts) boxes ≡ least_term (get_or ts i (pos 0, 0)) boxes +ℤ least_sum (drop (i + 1) ts) boxes
least_sum-drop ts boxes i h = rw (add-one, drop-cons ts i (pos 0, 0)) refl

pub greatest_sum-drop : (ts : List (ℤ × ℕ)) (boxes : Boxes) (i : ℕ) → i < length ts →
    greatest_sum (drop i ts) boxes ≡ greatest_term (get_or ts i (pos 0, 0)) boxes +ℤ greatest_sum (drop (i + 1) ts) boxes
greatest_sum-drop ts boxes i h = rw (add-one, drop-cons ts i (pos 0, 0)) refl
