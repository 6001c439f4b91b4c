-- Scaled lists over boxes.
use Rattle.std.proofs.Common.{◌≡◌, ◌≢◌, ℕ, zero, suc, ◌*◌, ◌<◌, List, [], ◌∷◌, ℤ, pos, negsuc, ◌*ℤ◌, ◌≤ℤ◌, unsigned_abs, refl, ap, ◌∙◌, arith}
use Rattle.std.specs.Int.{int_max, int_min}
use Rattle.std.proofs.lemmas.Int.{ints, clamps, unsigned_abs-mul}
use Rattle.std.proofs.Math.IntN.{*ℤ-zero}
use Rattle.std.proofs.Math.Nat.{mul_assoc}
use Rattle.signed_clause.specs.Clauses.{Boxes, box_of}
use Rattle.ground_form.specs.Bounds.{low_of, high_of, reach_of, term_weight, weight_of, least_term, greatest_term, least_sum, greatest_sum}
use Rattle.ground_form.proofs.Products.{mul_up, mul_down}
use Rattle.form_build.specs.Merged.{scaled}
use Rattle.form_build.specs.Sums.{AreTerms}
use Rattle.form_build.proofs.Distributing.{spread, product_assoc}

some_abs : (c : ℤ) → c ≢ pos 0 → 0 < unsigned_abs c
some_abs (pos zero) h = absurd (h refl)
some_abs (pos (suc n)) h = omega arith
some_abs (negsuc n) h = omega arith

both_some : (m n : ℕ) → 0 < m → 0 < n → 0 < m * n
both_some zero n h k = absurd (omega (arith, h))
both_some (suc m) zero h k = absurd (omega (arith, k))
both_some (suc m) (suc n) h k = omega arith

-- a product of numbers that aren't 0 isn't
product_some : (c d : ℤ) → c ≢ pos 0 → d ≢ pos 0 → (c *ℤ d) ≢ pos 0
product_some c d h k e =
    let size = unsigned_abs-mul c d in
    let both = both_some (unsigned_abs c) (unsigned_abs d) (some_abs c h) (some_abs d k) in
    let none = ap unsigned_abs e in
    absurd (omega (arith, size, both, none))

pub scaled_terms : (boxes : Boxes) (n : ℕ) (c : ℤ) (ts : List (ℤ × ℕ)) → c ≢ pos 0 → AreTerms boxes n ts → AreTerms boxes n (scaled c ts)
scaled_terms boxes n c [] h k = tt
scaled_terms boxes n c (t ∷ ts) h k = (k.0, k.1, product_some c t.0 h k.2, k.3, scaled_terms boxes (suc t.1) c ts h k.4)

term_scaled : (boxes : Boxes) (c d : ℤ) (x : ℕ) → term_weight (c *ℤ d, x) boxes ≡ unsigned_abs c * term_weight (d, x) boxes
unfolding term_weight
term_scaled boxes c d x =
    let r = reach_of (box_of boxes x) in
    ap (λ (n : ℕ). n * r) (unsigned_abs-mul c d) ∙ mul_assoc (unsigned_abs c) (unsigned_abs d) r

pub scaled_weight : (boxes : Boxes) (c : ℤ) (ts : List (ℤ × ℕ)) → weight_of (scaled c ts) boxes ≡ unsigned_abs c * weight_of ts boxes
scaled_weight boxes c [] = omega arith
scaled_weight boxes c (t ∷ ts) =
    let rest = scaled_weight boxes c ts in
    let first = term_scaled boxes c t.0 t.1 in
    omega (arith, rest, first)

-- ---- ends

least_up : (boxes : Boxes) (n : ℕ) (d : ℤ) (x : ℕ) → (pos n *ℤ least_term (d, x) boxes) ≤ℤ least_term (pos n *ℤ d, x) boxes
unfolding least_term
least_up boxes n d x =
    let l = low_of (box_of boxes x) in
    let h = high_of (box_of boxes x) in
    let low = product_assoc (pos n) d l in
    let high = product_assoc (pos n) d h in
    let one = mul_up n (int_min (d *ℤ l) (d *ℤ h)) (d *ℤ l) (omega (arith, ints, clamps)) in
    let two = mul_up n (int_min (d *ℤ l) (d *ℤ h)) (d *ℤ h) (omega (arith, ints, clamps)) in
    omega (arith, ints, clamps, low, high, one, two)

least_down : (boxes : Boxes) (n : ℕ) (d : ℤ) (x : ℕ) → (negsuc n *ℤ greatest_term (d, x) boxes) ≤ℤ least_term (negsuc n *ℤ d, x) boxes
unfolding least_term greatest_term
least_down boxes n d x =
    let l = low_of (box_of boxes x) in
    let h = high_of (box_of boxes x) in
    let low = product_assoc (negsuc n) d l in
    let high = product_assoc (negsuc n) d h in
    let one = mul_down n (d *ℤ l) (int_max (d *ℤ l) (d *ℤ h)) (omega (arith, ints, clamps)) in
    let two = mul_down n (d *ℤ h) (int_max (d *ℤ l) (d *ℤ h)) (omega (arith, ints, clamps)) in
    omega (arith, ints, clamps, low, high, one, two)

greatest_up : (boxes : Boxes) (n : ℕ) (d : ℤ) (x : ℕ) → greatest_term (pos n *ℤ d, x) boxes ≤ℤ (pos n *ℤ greatest_term (d, x) boxes)
unfolding greatest_term
greatest_up boxes n d x =
    let l = low_of (box_of boxes x) in
    let h = high_of (box_of boxes x) in
    let low = product_assoc (pos n) d l in
    let high = product_assoc (pos n) d h in
    let one = mul_up n (d *ℤ l) (int_max (d *ℤ l) (d *ℤ h)) (omega (arith, ints, clamps)) in
    let two = mul_up n (d *ℤ h) (int_max (d *ℤ l) (d *ℤ h)) (omega (arith, ints, clamps)) in
    omega (arith, ints, clamps, low, high, one, two)

greatest_down : (boxes : Boxes) (n : ℕ) (d : ℤ) (x : ℕ) → greatest_term (negsuc n *ℤ d, x) boxes ≤ℤ (negsuc n *ℤ least_term (d, x) boxes)
unfolding least_term greatest_term
greatest_down boxes n d x =
    let l = low_of (box_of boxes x) in
    let h = high_of (box_of boxes x) in
    let low = product_assoc (negsuc n) d l in
    let high = product_assoc (negsuc n) d h in
    let one = mul_down n (int_min (d *ℤ l) (d *ℤ h)) (d *ℤ l) (omega (arith, ints, clamps)) in
    let two = mul_down n (int_min (d *ℤ l) (d *ℤ h)) (d *ℤ h) (omega (arith, ints, clamps)) in
    omega (arith, ints, clamps, low, high, one, two)

pub scaled_least_up : (boxes : Boxes) (n : ℕ) (ts : List (ℤ × ℕ)) → (pos n *ℤ least_sum ts boxes) ≤ℤ least_sum (scaled (pos n) ts) boxes
scaled_least_up boxes n [] = let nil = *ℤ-zero (pos n) in omega (arith, ints, nil)
scaled_least_up boxes n (t ∷ ts) =
    let rest = scaled_least_up boxes n ts in
    let first = least_up boxes n t.0 t.1 in
    let whole = spread (pos n) (least_term t boxes) (least_sum ts boxes) in
    omega (arith, ints, rest, first, whole)

pub scaled_least_down : (boxes : Boxes) (n : ℕ) (ts : List (ℤ × ℕ)) → (negsuc n *ℤ greatest_sum ts boxes) ≤ℤ least_sum (scaled (negsuc n) ts) boxes
scaled_least_down boxes n [] = let nil = *ℤ-zero (negsuc n) in omega (arith, ints, nil)
scaled_least_down boxes n (t ∷ ts) =
    let rest = scaled_least_down boxes n ts in
    let first = least_down boxes n t.0 t.1 in
    let whole = spread (negsuc n) (greatest_term t boxes) (greatest_sum ts boxes) in
    omega (arith, ints, rest, first, whole)

pub scaled_greatest_up : (boxes : Boxes) (n : ℕ) (ts : List (ℤ × ℕ)) → greatest_sum (scaled (pos n) ts) boxes ≤ℤ (pos n *ℤ greatest_sum ts boxes)
scaled_greatest_up boxes n [] = let nil = *ℤ-zero (pos n) in omega (arith, ints, nil)
scaled_greatest_up boxes n (t ∷ ts) =
    let rest = scaled_greatest_up boxes n ts in
    let first = greatest_up boxes n t.0 t.1 in
    let whole = spread (pos n) (greatest_term t boxes) (greatest_sum ts boxes) in
    omega (arith, ints, rest, first, whole)

pub scaled_greatest_down : (boxes : Boxes) (n : ℕ) (ts : List (ℤ × ℕ)) → greatest_sum (scaled (negsuc n) ts) boxes ≤ℤ (negsuc n *ℤ least_sum ts boxes)
scaled_greatest_down boxes n [] = let nil = *ℤ-zero (negsuc n) in omega (arith, ints, nil)
scaled_greatest_down boxes n (t ∷ ts) =
    let rest = scaled_greatest_down boxes n ts in
    let first = greatest_down boxes n t.0 t.1 in
    let whole = spread (negsuc n) (least_term t boxes) (least_sum ts boxes) in
    omega (arith, ints, rest, first, whole)
