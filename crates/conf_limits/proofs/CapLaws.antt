-- Numbers that are counted up to a bound: sums and products of them, and intervals that tell no more than whether they are narrow.
use Rattle.std.proofs.Common.{◌≡◌, ℕ, zero, suc, ◌*◌, ◌<◌, ◌≤◌, Bool, true, false, cond, refl, ap, sym, ◌∙◌, arith, ℤ, pos, negsuc, ◌*ℤ◌, ◌⊎◌, inl, inr}
use Rattle.std.specs.Prelude.{Option, None, Some, neg_ℤ, ◌&&◌}
use Rattle.std.specs.Int.{int_max, int_min}
use Rattle.std.proofs.lemmas.Int.{ints}
use Rattle.std.proofs.lemmas.Bool.{cases_lt}
use Rattle.std.proofs.Math.IntN.{*ℤ-zero}
use Rattle.std.proofs.Math.Nat.{le-mul_of_pos_right, mul_comm}
use Rattle.model_limits.specs.Limits.{most_width}
use Rattle.conf_limits.specs.Limits.{capped, most, narrowed}
use Rattle.conf_limits.specs.Measures.{Interval, between, is_near, many}

-- Sums and products

below : (m : ℕ) → m < most → capped m ≡ m
below m h = omega (arith, h)

above : (m : ℕ) → most ≤ m → capped m ≡ most
above m h = omega (arith, h)

left_above : (m n : ℕ) → most ≤ m → capped (capped m * capped n) ≡ capped (m * n)
left_above m zero h = omega arith
left_above m (suc n) h =
    let a : capped m ≤ capped m * capped (suc n) = le-mul_of_pos_right (capped m) (omega arith) in
    let b : m ≤ m * suc n = le-mul_of_pos_right m (omega arith) in
    let e = above m h in
    omega (arith, h, a, b, e)

right_above : (m n : ℕ) → most ≤ n → capped (capped m * capped n) ≡ capped (m * n)
right_above m n h = ap capped (mul_comm (capped m) (capped n)) ∙ left_above n m h ∙ ap capped (mul_comm n m)

of_cases : (m n : ℕ) → (m < most) ⊎ (most ≤ m) → (n < most) ⊎ (most ≤ n) → capped (capped m * capped n) ≡ capped (m * n)
of_cases m n (inl a) (inl b) = ap (λ x. capped (x * capped n)) (below m a) ∙ ap (λ x. capped (m * x)) (below n b)
of_cases m n (inr a) b = left_above m n a
of_cases m n (inl a) (inr b) = right_above m n b

pub product_capped : (m n : ℕ) → capped (capped m * capped n) ≡ capped (m * n)
product_capped m n = of_cases m n (cases_lt m most) (cases_lt n most)

-- Intervals

far : (n : ℕ) → most_width < n → is_near (pos n) ≡ false
far n h = grind (arith, ints)

far_below : (n : ℕ) → most_width < n → is_near (neg_ℤ (pos n)) ≡ false
far_below zero h = absurd (omega (arith, h))
far_below (suc n) h = grind (arith, ints)

wide_low : (a b : ℤ) → is_near a ≡ false → narrowed (between a b) ≡ None
wide_low a b h = ap (λ x. cond (x && is_near b) (Some (between a b)) None) h

wide_high : (a b : ℤ) → is_near b ≡ false → narrowed (between a b) ≡ None
wide_high a b h = ap (λ x. cond (is_near a && x) (Some (between a b)) None) h ∙ neither (is_near a) (Some (between a b))
  where
    neither : (c : Bool) (i : Option Interval) → cond (c && false) i None ≡ None
    neither true i = refl
    neither false i = refl

pub up_to_capped : (r : ℕ) → narrowed (between (pos 0) (pos (capped r))) ≡ narrowed (between (pos 0) (pos r))
up_to_capped r = by (cases_lt r most)
  where
    by : (r < most) ⊎ (most ≤ r) → narrowed (between (pos 0) (pos (capped r))) ≡ narrowed (between (pos 0) (pos r))
    by (inl h) = ap (λ n. narrowed (between (pos 0) (pos n))) (below r h)
    by (inr h) = wide_high (pos 0) (pos (capped r)) (far (capped r) (omega (arith, h))) ∙ sym (wide_high (pos 0) (pos r) (far r (omega (arith, h))))

more : (n k : ℕ) → most_width < n → most_width < n * suc k
more n k h = let m : n ≤ n * suc k = le-mul_of_pos_right n (omega arith) in omega (arith, h, m)

-- a multiple of a large number is 0 or far from it
scaled : (n : ℕ) (x : ℤ) → most_width < n → (x ≡ pos 0) ⊎ (is_near (pos n *ℤ x) ≡ false)
scaled n (pos zero) h = inl refl
scaled n (pos (suc k)) h = inr (far (n * suc k) (more n k h))
scaled n (negsuc k) h = inr (far_below (n * suc k) (more n k h))

product_zero : (n : ℕ) (x : ℤ) → x ≡ pos 0 → pos n *ℤ x ≡ pos 0
product_zero n x e = ap (λ y. pos n *ℤ y) e ∙ *ℤ-zero (pos n)

module _ (m n : ℕ) (x y : ℤ) where
  both_far : (is_near (pos m *ℤ x) ≡ false) → (is_near (pos n *ℤ x) ≡ false) → narrowed (between (pos m *ℤ x) (pos m *ℤ y)) ≡ narrowed (between (pos n *ℤ x) (pos n *ℤ y))
  both_far a b = wide_low (pos m *ℤ x) (pos m *ℤ y) a ∙ sym (wide_low (pos n *ℤ x) (pos n *ℤ y) b)

  high_far : (is_near (pos m *ℤ y) ≡ false) → (is_near (pos n *ℤ y) ≡ false) → narrowed (between (pos m *ℤ x) (pos m *ℤ y)) ≡ narrowed (between (pos n *ℤ x) (pos n *ℤ y))
  high_far a b = wide_high (pos m *ℤ x) (pos m *ℤ y) a ∙ sym (wide_high (pos n *ℤ x) (pos n *ℤ y) b)

  zeros : x ≡ pos 0 → y ≡ pos 0 → narrowed (between (pos m *ℤ x) (pos m *ℤ y)) ≡ narrowed (between (pos n *ℤ x) (pos n *ℤ y))
  zeros a b =
      ap (λ z. narrowed (between z (pos m *ℤ y))) (product_zero m x a ∙ sym (product_zero n x a))
      ∙ ap (λ z. narrowed (between (pos n *ℤ x) z)) (product_zero m y b ∙ sym (product_zero n y b))

  same : most_width < m → most_width < n → narrowed (between (pos m *ℤ x) (pos m *ℤ y)) ≡ narrowed (between (pos n *ℤ x) (pos n *ℤ y))
  same a b = by (scaled m x a) (scaled n x b) (scaled m y a) (scaled n y b)
    where
      by : (x ≡ pos 0) ⊎ (is_near (pos m *ℤ x) ≡ false) → (x ≡ pos 0) ⊎ (is_near (pos n *ℤ x) ≡ false) → (y ≡ pos 0) ⊎ (is_near (pos m *ℤ y) ≡ false) → (y ≡ pos 0) ⊎ (is_near (pos n *ℤ y) ≡ false) → narrowed (between (pos m *ℤ x) (pos m *ℤ y)) ≡ narrowed (between (pos n *ℤ x) (pos n *ℤ y))
      by (inr p) (inr q) r s = both_far p q
      by (inl e) q (inl f) s = zeros e f
      by (inl e) q (inr p) (inl f) = zeros e f
      by (inl e) q (inr p) (inr r) = high_far p r
      by (inr p) (inl e) (inl f) s = zeros e f
      by (inr p) (inl e) (inr q) (inl f) = zeros e f
      by (inr p) (inl e) (inr q) (inr r) = high_far q r

pub many_capped : (r : ℕ) (i : Interval) → narrowed (many (capped r) i) ≡ narrowed (many r i)
many_capped r i = by (cases_lt r most)
  where
    by : (r < most) ⊎ (most ≤ r) → narrowed (many (capped r) i) ≡ narrowed (many r i)
    by (inl h) = ap (λ n. narrowed (many n i)) (below r h)
    by (inr h) = same (capped r) r (int_min i.low (pos 0)) (int_max i.high (pos 0)) (omega (arith, h)) (omega (arith, h))
