-- Sums over the boxes of single values: what a term and a size are there, and what a loop's next
-- step leaves.
use Rattle.std.proofs.Common.{true, false, ◌≡◌, ℕ, zero, suc, ◌+◌, ◌*◌, ◌≤◌, ◌<◌, ℤ, pos, ◌+ℤ◌, ◌*ℤ◌, ◌≤ℤ◌, unsigned_abs, max, cond, List, [], ◌∷◌, length, get_or, drop, All, arith, refl, ap, ◌∙◌, subst}
use Rattle.std.specs.Ordering.{int_eq}
use Rattle.std.proofs.lemmas.Int.{ints}
use Rattle.signed_clause.specs.Ranges.{Ranges}
use Rattle.signed_clause.specs.Clauses.{box_of}
use Rattle.signed_clause.proofs.RangeSteps.{left_at}
use Rattle.ground_form.specs.Meaning.{value_of, sum_at, load_at}
use Rattle.ground_form.specs.Bounds.{low_of, high_of, reach_of, term_weight, weight_of, size_sum, singles}

pub box_single : (a : List ℤ) (x : ℕ) → x < length a → box_of (singles a) x ≡ (value_of a x, value_of a x) ∷ []
box_single [] x h = absurd (omega arith)
box_single (v ∷ a) zero h = refl
box_single (v ∷ a) (suc x) h = box_single a x (omega arith)

max_same : (n : ℕ) → max n n ≡ n
max_same n = omega arith

pub term_single : (t : ℤ × ℕ) (a : List ℤ) → t.1 < length a → term_weight t (singles a) ≡ unsigned_abs t.0 * unsigned_abs (value_of a t.1)
unfolding term_weight
term_single t a h = ap (λ (z : Ranges). unsigned_abs t.0 * reach_of z) (box_single a t.1 h) ∙ ap (λ (n : ℕ). unsigned_abs t.0 * n) (max_same (unsigned_abs (value_of a t.1)))

-- one more term
pub sum_left : (ts : List (ℤ × ℕ)) (a : List ℤ) (i : ℕ) (t d : ℤ × ℕ) → i < length ts → t ≡ get_or ts i d → sum_at (drop i ts) a ≡ (t.0 *ℤ value_of a t.1) +ℤ sum_at (drop (i + 1) ts) a
sum_left ts a i t d h e = ap (λ (z : List (ℤ × ℕ)). sum_at z a) (left_at ts i t d h e)

pub weight_left : (ts : List (ℤ × ℕ)) (a : List ℤ) (i : ℕ) (t d : ℤ × ℕ) → i < length ts → t ≡ get_or ts i d → t.1 < length a →
    weight_of (drop i ts) (singles a) ≡ unsigned_abs t.0 * unsigned_abs (value_of a t.1) + weight_of (drop (i + 1) ts) (singles a)
weight_left ts a i t d h e k = ap (λ (z : List (ℤ × ℕ)). weight_of z (singles a)) (left_at ts i t d h e) ∙ ap (λ (n : ℕ). n + weight_of (drop (i + 1) ts) (singles a)) (term_single t a k)

pub abs_plus : (x y : ℤ) → unsigned_abs (x +ℤ y) ≤ unsigned_abs x + unsigned_abs y
abs_plus x y = grind (arith, ints)

-- ---- sizes

pub load_left : (place : ℤ) (is : List (ℕ × ℕ × ℕ)) (a : List ℤ) (k : ℕ) (i d : ℕ × ℕ × ℕ) → k < length is → i ≡ get_or is k d →
    load_at place (drop k is) a ≡ cond (int_eq (value_of a i.0) place) (value_of a i.1 +ℤ load_at place (drop (k + 1) is) a) (load_at place (drop (k + 1) is) a)
load_left place is a k i d h e = ap (λ (z : List (ℕ × ℕ × ℕ)). load_at place z a) (left_at is k i d h e)

pub size_left : (is : List (ℕ × ℕ × ℕ)) (a : List ℤ) (k : ℕ) (i d : ℕ × ℕ × ℕ) → k < length is → i ≡ get_or is k d → i.1 < length a →
    size_sum (drop k is) (singles a) ≡ value_of a i.1 +ℤ size_sum (drop (k + 1) is) (singles a)
size_left is a k i d h e l = ap (λ (z : List (ℕ × ℕ × ℕ)). size_sum z (singles a)) (left_at is k i d h e) ∙ ap (λ (z : Ranges). high_of z +ℤ size_sum (drop (k + 1) is) (singles a)) (box_single a i.1 l)

-- sizes that are not below 0 don't add up to less than 0
pub sizes_above : (is : List (ℕ × ℕ × ℕ)) (a : List ℤ) → All (λ i. i.1 < length a) is → All (λ i. pos 0 ≤ℤ low_of (box_of (singles a) i.1)) is → pos 0 ≤ℤ size_sum is (singles a)
sizes_above [] a h s = omega (arith, ints)
sizes_above (i ∷ is) a h s =
    let here = box_single a i.1 (h 0 i (omega arith)) in
    let low : pos 0 ≤ℤ value_of a i.1 = subst (λ (z : Ranges). pos 0 ≤ℤ low_of z) here (s 0 i (omega arith)) in
    let high : high_of (box_of (singles a) i.1) ≡ value_of a i.1 = ap (λ (z : Ranges). high_of z) here in
    let rest = sizes_above is a (λ k d lt. h (suc k) d (omega arith)) (λ k d lt. s (suc k) d (omega arith)) in
    omega (arith, ints)

-- what is left of sizes that are not below 0
pub sizes_left : (is : List (ℕ × ℕ × ℕ)) (a : List ℤ) (k : ℕ) → All (λ i. i.1 < length a) is → All (λ i. pos 0 ≤ℤ low_of (box_of (singles a) i.1)) is → pos 0 ≤ℤ size_sum (drop k is) (singles a)
sizes_left [] a zero h s = omega (arith, ints)
sizes_left [] a (suc k) h s = omega (arith, ints)
sizes_left (i ∷ is) a zero h s = sizes_above (i ∷ is) a h s
sizes_left (i ∷ is) a (suc k) h s = sizes_left is a k (λ j d lt. h (suc j) d (omega arith)) (λ j d lt. s (suc j) d (omega arith))

-- the sum behind one more item, by whether it is at the place
pub load_step : (place : ℤ) (is : List (ℕ × ℕ × ℕ)) (a : List ℤ) (k : ℕ) (i : ℕ × ℕ × ℕ) (sum next : ℤ) →
    load_at place (drop k is) a ≡ cond (int_eq (value_of a i.0) place) (value_of a i.1 +ℤ load_at place (drop (k + 1) is) a) (load_at place (drop (k + 1) is) a) →
    size_sum (drop k is) (singles a) ≡ value_of a i.1 +ℤ size_sum (drop (k + 1) is) (singles a) → pos 0 ≤ℤ value_of a i.1 →
    next ≡ cond (int_eq (value_of a i.0) place) (sum +ℤ value_of a i.1) sum → sum +ℤ load_at place (drop k is) a ≡ load_at place is a → pos 0 ≤ℤ sum →
    (sum +ℤ size_sum (drop k is) (singles a)) ≤ℤ size_sum is (singles a) →
    record { value : next +ℤ load_at place (drop (k + 1) is) a ≡ load_at place is a; low : pos 0 ≤ℤ next; high : (next +ℤ size_sum (drop (k + 1) is) (singles a)) ≤ℤ size_sum is (singles a) }
load_step place is a k i sum next l s size n v low high =
    (elim (int_eq (value_of a i.0) place) as (λ b. load_at place (drop k is) a ≡ cond b (value_of a i.1 +ℤ load_at place (drop (k + 1) is) a) (load_at place (drop (k + 1) is) a) → next ≡ cond b (sum +ℤ value_of a i.1) sum →
    record { value : next +ℤ load_at place (drop (k + 1) is) a ≡ load_at place is a; low : pos 0 ≤ℤ next; high : (next +ℤ size_sum (drop (k + 1) is) (singles a)) ≤ℤ size_sum is (singles a) }) [
      | true ↦ λ l n. record { value = omega (arith, ints, l, n, v); low = omega (arith, ints, n, low, size); high = omega (arith, ints, n, s, high) }
      | false ↦ λ l n. record { value = omega (arith, ints, l, n, v); low = omega (arith, ints, n, low); high = omega (arith, ints, n, s, high, size) }
    ]) l n
