-- Sums that are one variable.
use Rattle.std.proofs.Common.{◌≡◌, ◌≢◌, ℕ, zero, suc, ◌+◌, ◌^◌, ◌<◌, ◌≤◌, true, List, [], ◌∷◌, ℤ, pos, negsuc, ◌+ℤ◌, ◌*ℤ◌, ◌≤ℤ◌, ◌<ℤ◌, unsigned_abs, length, All, refl, sym, ap, ◌∙◌, subst, arith}
use Rattle.std.specs.Int.{int_max, int_min}
use Rattle.std.proofs.lemmas.Int.{ints, clamps}
use Rattle.std.proofs.Math.IntN.{one, *ℤ-one, *ℤ_comm}
use Rattle.signed_clause.specs.Ranges.{Ranges, has, IsValid}
use Rattle.signed_clause.specs.Clauses.{Boxes, box_of}
use Rattle.signed_clause.proofs.SetFacts.{least_of_span}
use Rattle.ground_form.specs.Meaning.{value_of, sum_at}
use Rattle.ground_form.specs.Bounds.{low_of, high_of, reach_of, term_weight, weight_of, least_term, greatest_term, least_sum, greatest_sum}
use Rattle.ground_form.proofs.Ends.{low_le, le_high}
use Rattle.ground_form.proofs.Products.{mul_up, mul_down}
use Rattle.form_build.specs.declared.form.Linear.{Linear}
use Rattle.form_build.specs.Forms.{linear_at}
use Rattle.form_build.specs.Sums.{IsOpen, AreTerms, IsLinear, LiesFrom, IsVariable}
use Rattle.form_build.proofs.Distributing.{spread}

-- ---- one variable

one_times : (v : ℤ) → (pos 1 *ℤ v) ≡ v
unfolding one
one_times v = *ℤ_comm (pos 1) v ∙ *ℤ-one v

pub variable_at : (x : ℕ) (r : Linear) (a : List ℤ) → IsVariable x r → linear_at r a ≡ value_of a x
variable_at x r a is =
    let terms = ap (λ (z : List (ℤ × ℕ)). sum_at z a) is.terms in
    let unit = one_times (value_of a x) in
    omega (arith, ints, terms, unit, is.offset)

one_weight : (x : ℕ) (boxes : Boxes) → term_weight (pos 1, x) boxes ≡ reach_of (box_of boxes x)
unfolding term_weight
one_weight x boxes = omega arith

pub one_least : (x : ℕ) (boxes : Boxes) → low_of (box_of boxes x) ≤ℤ high_of (box_of boxes x) → least_term (pos 1, x) boxes ≡ low_of (box_of boxes x)
unfolding least_term
one_least x boxes h =
    let low = one_times (low_of (box_of boxes x)) in
    let high = one_times (high_of (box_of boxes x)) in
    omega (arith, ints, clamps, low, high, h)

pub one_greatest : (x : ℕ) (boxes : Boxes) → low_of (box_of boxes x) ≤ℤ high_of (box_of boxes x) → greatest_term (pos 1, x) boxes ≡ high_of (box_of boxes x)
unfolding greatest_term
one_greatest x boxes h =
    let low = one_times (low_of (box_of boxes x)) in
    let high = one_times (high_of (box_of boxes x)) in
    omega (arith, ints, clamps, low, high, h)

some_one : pos 1 ≢ pos 0
some_one e = absurd (omega (arith, ints, e))

pub variable_linear : (x : ℕ) (r : Linear) (boxes : Boxes) → IsVariable x r → x < length boxes → IsOpen (box_of boxes x) → IsLinear (reach_of (box_of boxes x)) boxes r
variable_linear x r boxes is there wide = record {
  terms = subst (λ (z : List (ℤ × ℕ)). AreTerms boxes 0 z) (sym is.terms) (omega arith, there, some_one, wide, tt);
  bounded =
      let terms = ap (λ (z : List (ℤ × ℕ)). weight_of z boxes) is.terms in
      let unit = one_weight x boxes in
      let size = ap unsigned_abs is.offset in
      omega (arith, terms, unit, size);
}

pub variable_lies : (x : ℕ) (r : Linear) (boxes : Boxes) → IsVariable x r → low_of (box_of boxes x) ≤ℤ high_of (box_of boxes x) → LiesFrom (low_of (box_of boxes x)) (high_of (box_of boxes x)) boxes r
variable_lies x r boxes is h = record {
  low_is =
      let terms = ap (λ (z : List (ℤ × ℕ)). least_sum z boxes) is.terms in
      let unit = one_least x boxes h in
      omega (arith, ints, terms, unit, is.offset);
  high_is =
      let terms = ap (λ (z : List (ℤ × ℕ)). greatest_sum z boxes) is.terms in
      let unit = one_greatest x boxes h in
      omega (arith, ints, terms, unit, is.offset);
}

-- ---- boxes of one value

pub ends_ordered : (rs : Ranges) → IsValid rs → low_of rs ≤ℤ high_of rs
ends_ordered [] s = omega (arith, ints)
ends_ordered (r ∷ rs) s = le_high (r ∷ rs) r.0 s (least_of_span _ _ r rs s).member

-- the value of a variable whose box has no two
pub fixed_value : (boxes : Boxes) (x : ℕ) (a : List ℤ) → All (λ d. IsValid d) boxes → x < length boxes → high_of (box_of boxes x) ≤ℤ low_of (box_of boxes x) → has (box_of boxes x) (value_of a x) ≡ true → low_of (box_of boxes x) ≡ value_of a x
fixed_value boxes x a valid there h member =
    let s = valid x [] there in
    let low = low_le (box_of boxes x) (value_of a x) s member in
    let high = le_high (box_of boxes x) (value_of a x) s member in
    omega (arith, ints, low, high, h)

-- ---- sums of open boxes are open

times_one : (c : ℤ) → (c *ℤ pos 1) ≡ c
times_one c = *ℤ_comm c (pos 1) ∙ one_times c

product_less_up : (n : ℕ) (low high : ℤ) → low <ℤ high → (pos (suc n) *ℤ low) <ℤ (pos (suc n) *ℤ high)
product_less_up n low high h =
    let m = mul_up (suc n) (low +ℤ pos 1) high (omega (arith, ints, h)) in
    let s = spread (pos (suc n)) low (pos 1) in
    let o = times_one (pos (suc n)) in
    omega (arith, ints, m, s, o)

product_less_down : (n : ℕ) (low high : ℤ) → low <ℤ high → (negsuc n *ℤ high) <ℤ (negsuc n *ℤ low)
product_less_down n low high h =
    let m = mul_down n (low +ℤ pos 1) high (omega (arith, ints, h)) in
    let s = spread (negsuc n) low (pos 1) in
    let o = times_one (negsuc n) in
    omega (arith, ints, m, s, o)

ends_less : (c low high : ℤ) → c ≢ pos 0 → low <ℤ high → int_min (c *ℤ low) (c *ℤ high) <ℤ int_max (c *ℤ low) (c *ℤ high)
ends_less (pos zero) low high some h = absurd (some refl)
ends_less (pos (suc n)) low high some h = let m = product_less_up n low high h in omega (arith, ints, clamps, m)
ends_less (negsuc n) low high some h = let m = product_less_down n low high h in omega (arith, ints, clamps, m)

term_less : (t : ℤ × ℕ) (boxes : Boxes) → t.0 ≢ pos 0 → IsOpen (box_of boxes t.1) → least_term t boxes <ℤ greatest_term t boxes
unfolding least_term greatest_term
term_less t boxes some h = ends_less t.0 (low_of (box_of boxes t.1)) (high_of (box_of boxes t.1)) some h

term_ordered : (t : ℤ × ℕ) (boxes : Boxes) → least_term t boxes ≤ℤ greatest_term t boxes
unfolding least_term greatest_term
term_ordered t boxes = omega (arith, ints, clamps)

sum_ordered : (ts : List (ℤ × ℕ)) (boxes : Boxes) → least_sum ts boxes ≤ℤ greatest_sum ts boxes
sum_ordered [] boxes = omega (arith, ints)
sum_ordered (t ∷ ts) boxes =
    let first = term_ordered t boxes in
    let rest = sum_ordered ts boxes in
    omega (arith, ints, first, rest)

-- a sum that is heavy, and yet lies within 2 ^ 50, is no number
pub heavy_open : (ts : List (ℤ × ℕ)) (offset : ℤ) (boxes : Boxes) → AreTerms boxes 0 ts → 2 ^ 58 < weight_of ts boxes + unsigned_abs offset → unsigned_abs (least_sum ts boxes +ℤ offset) ≤ 2 ^ 50 → least_sum ts boxes <ℤ greatest_sum ts boxes
heavy_open [] offset boxes h heavy narrow =
    let is : pos 0 +ℤ offset ≡ offset = omega (arith, ints) in
    let size = ap unsigned_abs is in
    absurd (omega (arith, heavy, narrow, size))
heavy_open (t ∷ ts) offset boxes h heavy narrow =
    let first = term_less t boxes h.2 h.3 in
    let rest = sum_ordered ts boxes in
    omega (arith, ints, first, rest)
