-- A sum lies between the least and the greatest one, which are the sum itself where the boxes are
-- single values; and so the rules of the linear kinds are right.
use Rattle.std.proofs.Common.{◌≡◌, ℕ, true, false, not, ◌||◌, List, [], ◌∷◌, ℤ, ◌+ℤ◌, ◌*ℤ◌, ◌≤ℤ◌, refl, arith, ap, ◌∙◌}
use Rattle.std.specs.Prelude.{int_lt, int_le}
use Rattle.std.specs.Int.{int_min, int_max}
use Rattle.std.specs.Ordering.{int_eq}
use Rattle.std.proofs.lemmas.Int.{ints}
use Rattle.std.proofs.lemmas.Bool.{and_parts}
use Rattle.std.proofs.lemmas.Bool.Decides.{Decides-int_eq}
use Rattle.signed_clause.specs.Ranges.{Ranges, has}
use Rattle.signed_clause.specs.Clauses.{Boxes, box_of}
use Rattle.ground_form.specs.Meaning.{value_of, sum_at, term_vars}
use Rattle.ground_form.specs.Bounds.{low_of, high_of, least_term, greatest_term, least_sum, greatest_sum}
use Rattle.ground_form.proofs.Products.{mul_least, mul_greatest}
use Rattle.box_view.proofs.EndLaws.{AreSets, AreSingle, values_in, above_low, below_high, single_head, single_tail}

pub least_sum-le : (ts : List (ℤ × ℕ)) (boxes : Boxes) (a : List ℤ) → AreSets boxes → values_in (term_vars ts) boxes a ≡ true → least_sum ts boxes ≤ℤ sum_at ts a
unfolding least_term
least_sum-le [] boxes a s h = omega (arith, ints)
least_sum-le (t ∷ ts) boxes a s h =
    let parts = and_parts (has (box_of boxes t.1) (value_of a t.1)) (values_in (term_vars ts) boxes a) h in
    let more = least_sum-le ts boxes a s parts.1 in
    let low = above_low (box_of boxes t.1) (value_of a t.1) (s t.1) parts.0 in
    let high = below_high (box_of boxes t.1) (value_of a t.1) (s t.1) parts.0 in
    let one = mul_least t.0 (low_of (box_of boxes t.1)) (high_of (box_of boxes t.1)) (value_of a t.1) low high in
    omega (arith, ints)

pub greatest_sum-ge : (ts : List (ℤ × ℕ)) (boxes : Boxes) (a : List ℤ) → AreSets boxes → values_in (term_vars ts) boxes a ≡ true → sum_at ts a ≤ℤ greatest_sum ts boxes
unfolding greatest_term
greatest_sum-ge [] boxes a s h = omega (arith, ints)
greatest_sum-ge (t ∷ ts) boxes a s h =
    let parts = and_parts (has (box_of boxes t.1) (value_of a t.1)) (values_in (term_vars ts) boxes a) h in
    let more = greatest_sum-ge ts boxes a s parts.1 in
    let low = above_low (box_of boxes t.1) (value_of a t.1) (s t.1) parts.0 in
    let high = below_high (box_of boxes t.1) (value_of a t.1) (s t.1) parts.0 in
    let one = mul_greatest t.0 (low_of (box_of boxes t.1)) (high_of (box_of boxes t.1)) (value_of a t.1) low high in
    omega (arith, ints)

-- ---- single values

min_same : (x : ℤ) → int_min x x ≡ x
min_same x = grind arith

max_same : (x : ℤ) → int_max x x ≡ x
max_same x = grind arith

least_term-single : (t : ℤ × ℕ) (boxes : Boxes) (v : ℤ) → box_of boxes t.1 ≡ (v, v) ∷ [] → least_term t boxes ≡ t.0 *ℤ v
unfolding least_term
least_term-single t boxes v e = ap (λ (s : Ranges). int_min (t.0 *ℤ low_of s) (t.0 *ℤ high_of s)) e ∙ min_same (t.0 *ℤ v)

greatest_term-single : (t : ℤ × ℕ) (boxes : Boxes) (v : ℤ) → box_of boxes t.1 ≡ (v, v) ∷ [] → greatest_term t boxes ≡ t.0 *ℤ v
unfolding greatest_term
greatest_term-single t boxes v e = ap (λ (s : Ranges). int_max (t.0 *ℤ low_of s) (t.0 *ℤ high_of s)) e ∙ max_same (t.0 *ℤ v)

pub least_sum-single : (ts : List (ℤ × ℕ)) (boxes : Boxes) (a : List ℤ) → AreSingle (term_vars ts) boxes a → least_sum ts boxes ≡ sum_at ts a
least_sum-single [] boxes a h = refl
least_sum-single (t ∷ ts) boxes a h =
    let one = least_term-single t boxes (value_of a t.1) (single_head t.1 (term_vars ts) boxes a h) in
    let more = least_sum-single ts boxes a (single_tail t.1 (term_vars ts) boxes a h) in
    cc

pub greatest_sum-single : (ts : List (ℤ × ℕ)) (boxes : Boxes) (a : List ℤ) → AreSingle (term_vars ts) boxes a → greatest_sum ts boxes ≡ sum_at ts a
greatest_sum-single [] boxes a h = refl
greatest_sum-single (t ∷ ts) boxes a h =
    let one = greatest_term-single t boxes (value_of a t.1) (single_head t.1 (term_vars ts) boxes a h) in
    let more = greatest_sum-single ts boxes a (single_tail t.1 (term_vars ts) boxes a h) in
    cc

-- ---- the rules

pub at_most-false : (least sum bound : ℤ) → least ≤ℤ sum → int_lt bound least ≡ true → int_le sum bound ≡ false
at_most-false least sum bound h k = grind (arith, ints)

pub sum-false : (low high out least greatest sum offset : ℤ) → low ≤ℤ out → out ≤ℤ high → least ≤ℤ sum → sum ≤ℤ greatest →
    (int_lt (greatest +ℤ offset) low || int_lt high (least +ℤ offset)) ≡ true → int_eq out (sum +ℤ offset) ≡ false
sum-false low high out least greatest sum offset h k l m e =
    let same = Decides-int_eq out (sum +ℤ offset) in grind (arith, ints)

pub at_most-single : (sum bound : ℤ) → int_lt bound sum ≡ not (int_le sum bound)
at_most-single sum bound = grind (arith, ints)

pub sum-single : (out sum offset : ℤ) → (int_lt (sum +ℤ offset) out || int_lt out (sum +ℤ offset)) ≡ not (int_eq out (sum +ℤ offset))
sum-single out sum offset = let same = Decides-int_eq out (sum +ℤ offset) in grind (arith, ints)
