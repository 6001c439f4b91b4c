-- A sum with a term more, and how far a sum reaches.
use Rattle.std.proofs.Common.{◌≡◌, ℕ, ◌+◌, ◌*◌, ◌^◌, ◌<◌, ◌≤◌, max, List, [], ◌∷◌, ℤ, ◌+ℤ◌, ◌*ℤ◌, ◌≤ℤ◌, unsigned_abs, length, get_or, drop, drop-cons, add-one, All, refl, sym, ap, ◌∙◌, subst, arith}
use Rattle.std.proofs.lemmas.Int.{ints}
use Rattle.std.proofs.Math.Nat.{mul-le-mul_left}
use Rattle.signed_clause.specs.Ranges.{Ranges, IsValid}
use Rattle.signed_clause.specs.Clauses.{Boxes, box_of}
use Rattle.ground_form.specs.Meaning.{value_of, sum_at}
use Rattle.ground_form.specs.Bounds.{low_of, high_of, reach_of, term_weight, weight_of, least_term, greatest_term, least_sum, greatest_sum, LiesWithin, most_sum}
use Rattle.ground_form.proofs.Weights.{least_term_fits, greatest_term_fits}
use Rattle.form_build.specs.declared.form.Linear.{Linear}
use Rattle.form_build.specs.Sums.{linear_weight, least_linear, greatest_linear, IsLinear, AreNumbersWithin}
use Rattle.form_build.proofs.Linears.{numbers_within}
use Rattle.form_build.proofs.Singles.{ends_ordered}

-- ---- numbers that fit

numbers_times : (boxes : Boxes) (c n m : ℕ) (f : Linear) → c * n ≤ m → IsLinear n boxes f → AreNumbersWithin c m f
numbers_times boxes c n m f le h =
    let w = numbers_within boxes n n f (omega arith) h in record {
      terms = λ k d lt.
          let one = w.terms k d lt in
          let two = mul-le-mul_left c one in
          omega (arith, two, le);
      offset =
          let one = w.offset in
          let two = mul-le-mul_left c one in
          omega (arith, two, le);
    }

pub factor_within : (boxes : Boxes) (t : ℤ × ℕ) (f : Linear) → term_weight t boxes ≤ most_sum → IsLinear (reach_of (box_of boxes t.1)) boxes f → AreNumbersWithin (unsigned_abs t.0) (2 ^ 62) f
unfolding term_weight
factor_within boxes t f le h = numbers_times boxes (unsigned_abs t.0) (reach_of (box_of boxes t.1)) (2 ^ 62) f (omega (arith, le)) h

pub term_linear : (boxes : Boxes) (t : ℤ × ℕ) (f : Linear) → IsLinear (unsigned_abs t.0 * reach_of (box_of boxes t.1)) boxes f → IsLinear (term_weight t boxes) boxes f
unfolding term_weight
term_linear boxes t f h = h

-- what two sums are, one a number of times a value
pub term_more : (r s x v c : ℤ) (term : ℤ) → r ≡ (s +ℤ term) → term ≡ (c *ℤ x) → x ≡ v → r ≡ (s +ℤ (c *ℤ v))
term_more r s x v c term e f g = e ∙ ap (λ (z : ℤ). s +ℤ z) (f ∙ ap (λ (z : ℤ). c *ℤ z) g)

-- ---- how far a sum reaches

abs_plus : (x y : ℤ) → unsigned_abs (x +ℤ y) ≤ unsigned_abs x + unsigned_abs y
abs_plus x y = grind (arith, ints)

least_fits : (ts : List (ℤ × ℕ)) (boxes : Boxes) → unsigned_abs (least_sum ts boxes) ≤ weight_of ts boxes
least_fits [] boxes = omega arith
least_fits (t ∷ ts) boxes =
    let one = least_term_fits t boxes in
    let rest = least_fits ts boxes in
    let both = abs_plus (least_term t boxes) (least_sum ts boxes) in
    omega (arith, one, rest, both)

greatest_fits : (ts : List (ℤ × ℕ)) (boxes : Boxes) → unsigned_abs (greatest_sum ts boxes) ≤ weight_of ts boxes
greatest_fits [] boxes = omega arith
greatest_fits (t ∷ ts) boxes =
    let one = greatest_term_fits t boxes in
    let rest = greatest_fits ts boxes in
    let both = abs_plus (greatest_term t boxes) (greatest_sum ts boxes) in
    omega (arith, one, rest, both)

between : (low high least greatest : ℤ) (n : ℕ) → least ≤ℤ low → low ≤ℤ high → high ≤ℤ greatest → unsigned_abs least ≤ n → unsigned_abs greatest ≤ n → max (unsigned_abs low) (unsigned_abs high) ≤ n
between low high least greatest n a b c d e = grind (arith, ints)

-- a box between the ends of a sum reaches no farther than the sum's numbers
pub reach_within : (f : Linear) (boxes : Boxes) (box : Ranges) → IsValid box → LiesWithin (least_linear f boxes) (greatest_linear f boxes) box → reach_of box ≤ linear_weight f boxes
reach_within f boxes box valid lies =
    let low = least_fits f.terms boxes in
    let high = greatest_fits f.terms boxes in
    let one = abs_plus (least_sum f.terms boxes) f.offset in
    let two = abs_plus (greatest_sum f.terms boxes) f.offset in
    between (low_of box) (high_of box) (least_linear f boxes) (greatest_linear f boxes) (linear_weight f boxes) lies.0 (ends_ordered box valid) lies.1
    (omega (arith, low, one)) (omega (arith, high, two))

-- ---- the next term

pub sum_next : (ts : List (ℤ × ℕ)) (i : ℕ) (t : ℤ × ℕ) (a : List ℤ) → i < length ts → t ≡ get_or ts i t → sum_at (drop i ts) a ≡ ((t.0 *ℤ value_of a t.1) +ℤ sum_at (drop (i + 1) ts) a)
sum_next ts i t a lt is =
    let first : sum_at (drop i ts) a ≡ (((get_or ts i t).0 *ℤ value_of a (get_or ts i t).1) +ℤ sum_at (drop (i + 1) ts) a) = rw (add-one, drop-cons ts i t) refl in
    first ∙ ap (λ (u : ℤ × ℕ). (u.0 *ℤ value_of a u.1) +ℤ sum_at (drop (i + 1) ts) a) (sym is)

pub weight_next : (ts : List (ℤ × ℕ)) (i : ℕ) (t : ℤ × ℕ) (boxes : Boxes) → i < length ts → t ≡ get_or ts i t → weight_of (drop i ts) boxes ≡ term_weight t boxes + weight_of (drop (i + 1) ts) boxes
weight_next ts i t boxes lt is =
    let first : weight_of (drop i ts) boxes ≡ term_weight (get_or ts i t) boxes + weight_of (drop (i + 1) ts) boxes = rw (add-one, drop-cons ts i t) refl in
    first ∙ ap (λ (u : ℤ × ℕ). term_weight u boxes + weight_of (drop (i + 1) ts) boxes) (sym is)

pub there_at : (n : ℕ) (ts : List (ℤ × ℕ)) (i : ℕ) (t : ℤ × ℕ) → i < length ts → t ≡ get_or ts i t → All (λ u. u.1 < n) ts → t.1 < n
there_at n ts i t lt is all = subst (λ (u : ℤ × ℕ). u.1 < n) (sym is) (all i t lt)
