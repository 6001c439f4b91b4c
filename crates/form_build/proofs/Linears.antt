-- What two sums are together, and what one is times a number.
use Rattle.std.proofs.Common.{◌≡◌, ◌≢◌, ℕ, zero, suc, ◌+◌, ◌*◌, ◌≤◌, List, [], ◌∷◌, All, ℤ, pos, negsuc, ◌+ℤ◌, ◌-ℤ◌, ◌*ℤ◌, ◌≤ℤ◌, unsigned_abs, sym, ap, ◌∙◌, subst, arith}
use Rattle.std.specs.Int.{int_max, int_min}
use Rattle.std.proofs.lemmas.Int.{ints, clamps, unsigned_abs-mul}
use Rattle.std.proofs.Math.IntN.{zero-*ℤ, pred_ℤ-*ℤ}
use Rattle.std.proofs.Math.Nat.{mul-le-mul_left}
use Rattle.signed_clause.specs.Clauses.{Boxes, box_of}
use Rattle.ground_form.specs.Meaning.{sum_at}
use Rattle.ground_form.specs.Bounds.{reach_of, term_weight, weight_of, least_sum, greatest_sum}
use Rattle.form_build.specs.declared.form.Linear.{Linear}
use Rattle.form_build.specs.Forms.{linear_at}
use Rattle.form_build.specs.Merged.{scaled, merged}
use Rattle.form_build.specs.Sums.{IsOpen, AreTerms, least_linear, greatest_linear, IsLinear, LiesFrom, IsSum, AreNumbersWithin}
use Rattle.form_build.proofs.Distributing.{spread}
use Rattle.form_build.proofs.MergedSums.{merged_sum, scaled_sum, merged_terms}
use Rattle.form_build.proofs.MergedBounds.{merged_weight, merged_greatest, merged_least}
use Rattle.form_build.proofs.ScaledBounds.{scaled_terms, scaled_weight, scaled_least_up, scaled_least_down, scaled_greatest_up, scaled_greatest_down}

-- ---- numbers

pub number_at : (r : Linear) (v : ℤ) (a : List ℤ) → r.terms ≡ [] → r.offset ≡ v → linear_at r a ≡ v
number_at r v a e f = let nil = ap (λ (z : List (ℤ × ℕ)). sum_at z a) e in omega (arith, ints, nil, f)

pub number_linear : (r : Linear) (v : ℤ) (boxes : Boxes) → r.terms ≡ [] → r.offset ≡ v → IsLinear (unsigned_abs v) boxes r
number_linear r v boxes e f = record {
  terms = subst (λ (z : List (ℤ × ℕ)). AreTerms boxes 0 z) (sym e) tt;
  bounded =
      let nil = ap (λ (z : List (ℤ × ℕ)). weight_of z boxes) e in
      let size = ap unsigned_abs f in omega (arith, nil, size);
}

pub number_lies : (r : Linear) (v : ℤ) (boxes : Boxes) → r.terms ≡ [] → r.offset ≡ v → LiesFrom v v boxes r
number_lies r v boxes e f = record {
  low_is = let nil = ap (λ (z : List (ℤ × ℕ)). least_sum z boxes) e in omega (arith, ints, nil, f);
  high_is = let nil = ap (λ (z : List (ℤ × ℕ)). greatest_sum z boxes) e in omega (arith, ints, nil, f);
}

-- ---- two sums

pub record IsPlus (f g r : Linear) : Type 0 where
  pub terms : r.terms ≡ merged f.terms g.terms
  pub offset : r.offset ≡ f.offset +ℤ g.offset

pub plus_at : (f g r : Linear) (a : List ℤ) → IsPlus f g r → linear_at r a ≡ linear_at f a +ℤ linear_at g a
plus_at f g r a p =
    let is = ap (λ (z : List (ℤ × ℕ)). sum_at z a) p.terms in
    let law = merged_sum f.terms g.terms a in
    omega (arith, ints, is, law, p.offset)

abs_plus : (x y : ℤ) → unsigned_abs (x +ℤ y) ≤ unsigned_abs x + unsigned_abs y
abs_plus x y = grind (arith, ints)

pub plus_linear : (f g r : Linear) (boxes : Boxes) (m n : ℕ) → IsPlus f g r → IsLinear m boxes f → IsLinear n boxes g → IsLinear (m + n) boxes r
plus_linear f g r boxes m n p h k = record {
  terms = subst (λ (z : List (ℤ × ℕ)). AreTerms boxes 0 z) (sym p.terms) (merged_terms boxes 0 f.terms g.terms h.terms k.terms);
  bounded =
      let is = ap (λ (z : List (ℤ × ℕ)). weight_of z boxes) p.terms in
      let law = merged_weight boxes f.terms g.terms in
      let size = ap unsigned_abs p.offset in
      let both = abs_plus f.offset g.offset in
      omega (arith, is, law, size, both, h.bounded, k.bounded);
}

pub plus_low : (f g r : Linear) (boxes : Boxes) → IsPlus f g r → (least_linear f boxes +ℤ least_linear g boxes) ≤ℤ least_linear r boxes
plus_low f g r boxes p =
    let is = ap (λ (z : List (ℤ × ℕ)). least_sum z boxes) p.terms in
    let law = merged_least boxes f.terms g.terms in
    omega (arith, ints, is, law, p.offset)

pub plus_high : (f g r : Linear) (boxes : Boxes) → IsPlus f g r → greatest_linear r boxes ≤ℤ (greatest_linear f boxes +ℤ greatest_linear g boxes)
plus_high f g r boxes p =
    let is = ap (λ (z : List (ℤ × ℕ)). greatest_sum z boxes) p.terms in
    let law = merged_greatest boxes f.terms g.terms in
    omega (arith, ints, is, law, p.offset)

-- ---- a sum times a number

pub record IsTimes (c : ℤ) (f r : Linear) : Type 0 where
  pub terms : r.terms ≡ scaled c f.terms
  pub offset : r.offset ≡ c *ℤ f.offset

pub times_at : (c : ℤ) (f r : Linear) (a : List ℤ) → IsTimes c f r → linear_at r a ≡ c *ℤ linear_at f a
times_at c f r a p =
    let is = ap (λ (z : List (ℤ × ℕ)). sum_at z a) p.terms in
    let law = scaled_sum c f.terms a in
    let whole = spread c (sum_at f.terms a) f.offset in
    omega (arith, ints, is, law, whole, p.offset)

pub times_linear : (c : ℤ) (f r : Linear) (boxes : Boxes) (n : ℕ) → c ≢ pos 0 → IsTimes c f r → IsLinear n boxes f → IsLinear (unsigned_abs c * n) boxes r
times_linear c f r boxes n some p h = record {
  terms = subst (λ (z : List (ℤ × ℕ)). AreTerms boxes 0 z) (sym p.terms) (scaled_terms boxes 0 c f.terms some h.terms);
  bounded =
      let is = ap (λ (z : List (ℤ × ℕ)). weight_of z boxes) p.terms in
      let law = scaled_weight boxes c f.terms in
      let size = ap unsigned_abs p.offset in
      let both = unsigned_abs-mul c f.offset in
      let m : unsigned_abs c * (weight_of f.terms boxes + unsigned_abs f.offset) ≤ unsigned_abs c * n = mul-le-mul_left (unsigned_abs c) h.bounded in
      omega (arith, is, law, size, both, m);
}

pub times_low : (c : ℤ) (f r : Linear) (boxes : Boxes) → IsTimes c f r → int_min (c *ℤ least_linear f boxes) (c *ℤ greatest_linear f boxes) ≤ℤ least_linear r boxes
times_low (pos n) f r boxes p =
    let is = ap (λ (z : List (ℤ × ℕ)). least_sum z boxes) p.terms in
    let law = scaled_least_up boxes n f.terms in
    let whole = spread (pos n) (least_sum f.terms boxes) f.offset in
    omega (arith, ints, clamps, is, law, whole, p.offset)
times_low (negsuc n) f r boxes p =
    let is = ap (λ (z : List (ℤ × ℕ)). least_sum z boxes) p.terms in
    let law = scaled_least_down boxes n f.terms in
    let whole = spread (negsuc n) (greatest_sum f.terms boxes) f.offset in
    omega (arith, ints, clamps, is, law, whole, p.offset)

pub times_high : (c : ℤ) (f r : Linear) (boxes : Boxes) → IsTimes c f r → greatest_linear r boxes ≤ℤ int_max (c *ℤ least_linear f boxes) (c *ℤ greatest_linear f boxes)
times_high (pos n) f r boxes p =
    let is = ap (λ (z : List (ℤ × ℕ)). greatest_sum z boxes) p.terms in
    let law = scaled_greatest_up boxes n f.terms in
    let whole = spread (pos n) (greatest_sum f.terms boxes) f.offset in
    omega (arith, ints, clamps, is, law, whole, p.offset)
times_high (negsuc n) f r boxes p =
    let is = ap (λ (z : List (ℤ × ℕ)). greatest_sum z boxes) p.terms in
    let law = scaled_greatest_down boxes n f.terms in
    let whole = spread (negsuc n) (least_sum f.terms boxes) f.offset in
    omega (arith, ints, clamps, is, law, whole, p.offset)

-- ---- times 0

zero_times : (v : ℤ) → (pos 0 *ℤ v) ≡ pos 0
zero_times v = zero-*ℤ v

pub nothing_at : (f r : Linear) (a : List ℤ) → linear_at r a ≡ pos 0 → linear_at r a ≡ pos 0 *ℤ linear_at f a
nothing_at f r a e = e ∙ sym (zero_times (linear_at f a))

pub nothing_low : (f r : Linear) (boxes : Boxes) → LiesFrom (pos 0) (pos 0) boxes r → int_min (pos 0 *ℤ least_linear f boxes) (pos 0 *ℤ greatest_linear f boxes) ≤ℤ least_linear r boxes
nothing_low f r boxes h =
    let low = zero_times (least_linear f boxes) in
    let high = zero_times (greatest_linear f boxes) in
    omega (arith, ints, clamps, low, high, h.low_is)

pub nothing_high : (f r : Linear) (boxes : Boxes) → LiesFrom (pos 0) (pos 0) boxes r → greatest_linear r boxes ≤ℤ int_max (pos 0 *ℤ least_linear f boxes) (pos 0 *ℤ greatest_linear f boxes)
nothing_high f r boxes h =
    let low = zero_times (least_linear f boxes) in
    let high = zero_times (greatest_linear f boxes) in
    omega (arith, ints, clamps, low, high, h.high_is)

-- ---- bounds

pub linear_more : (m n : ℕ) (boxes : Boxes) (f : Linear) → m ≤ n → IsLinear m boxes f → IsLinear n boxes f
linear_more m n boxes f h k = record { terms = k.terms; bounded = omega (arith, h, k.bounded) }

coefficient_weight : (t : ℤ × ℕ) (boxes : Boxes) → IsOpen (box_of boxes t.1) → unsigned_abs t.0 ≤ term_weight t boxes
unfolding term_weight
coefficient_weight t boxes h =
    let r = reach_of (box_of boxes t.1) in
    let some : 1 ≤ r = omega (arith, ints, h) in
    let m : unsigned_abs t.0 * 1 ≤ unsigned_abs t.0 * r = mul-le-mul_left (unsigned_abs t.0) some in
    omega (arith, m)

coefficients_within : (boxes : Boxes) (n m : ℕ) (ts : List (ℤ × ℕ)) → AreTerms boxes n ts → weight_of ts boxes ≤ m → All (λ t. 1 * unsigned_abs t.0 ≤ m) ts
coefficients_within boxes n m [] h w k d lt = absurd (omega (arith, lt))
coefficients_within boxes n m (t ∷ ts) h w zero d lt = let c = coefficient_weight t boxes h.3 in omega (arith, c, w)
coefficients_within boxes n m (t ∷ ts) h w (suc k) d lt = coefficients_within boxes (suc t.1) m ts h.4 (omega (arith, w)) k d (omega (arith, lt))

-- each number of a sum is at most what all add up to
pub numbers_within : (boxes : Boxes) (n m : ℕ) (f : Linear) → n ≤ m → IsLinear n boxes f → AreNumbersWithin 1 m f
numbers_within boxes n m f h k = record {
  terms = coefficients_within boxes 0 m f.terms k.terms (omega (arith, h, k.bounded));
  offset = omega (arith, h, k.bounded);
}

-- bounds may be wider
pub sum_wider : (boxes : Boxes) (low high low' high' : ℤ) (f : Linear) → low' ≤ℤ low → high ≤ℤ high' → IsSum boxes low high f → IsSum boxes low' high' f
sum_wider boxes low high low' high' f h k s = record {
  linear = s.linear;
  lies = record { low_is = omega (arith, ints, h, s.lies.low_is); high_is = omega (arith, ints, k, s.lies.high_is) };
}

-- ---- times -1

pub minus_one : (v : ℤ) → (negsuc 0 *ℤ v) ≡ pos 0 -ℤ v
minus_one v =
    let step : (negsuc 0 *ℤ v) ≡ ((pos 0 *ℤ v) -ℤ v) = pred_ℤ-*ℤ (pos 0) v in
    let nil = zero-*ℤ v in
    omega (arith, ints, step, nil)

pub less_low : (low high m : ℤ) → low ≤ℤ high → int_min (negsuc 0 *ℤ low) (negsuc 0 *ℤ high) ≤ℤ m → (pos 0 -ℤ high) ≤ℤ m
less_low low high m h k =
    let one = minus_one low in
    let two = minus_one high in
    omega (arith, ints, clamps, one, two, h, k)

pub less_high : (low high m : ℤ) → low ≤ℤ high → m ≤ℤ int_max (negsuc 0 *ℤ low) (negsuc 0 *ℤ high) → m ≤ℤ (pos 0 -ℤ low)
less_high low high m h k =
    let one = minus_one low in
    let two = minus_one high in
    omega (arith, ints, clamps, one, two, h, k)
