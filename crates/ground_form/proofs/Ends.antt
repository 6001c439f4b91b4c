-- Values lie between the ends of their boxes, and sums between the least and the greatest sum.
use Rattle.std.proofs.Common.{◌≡◌, ℕ, ◌<◌, true, List, [], ◌∷◌, ℤ, ◌*ℤ◌, ◌≤ℤ◌, length, All, arith}
use Rattle.std.proofs.lemmas.Int.{ints}
use Rattle.signed_clause.specs.Ranges.{Ranges, has, IsValid}
use Rattle.signed_clause.specs.Clauses.{Boxes, box_of}
use Rattle.signed_clause.proofs.SetFacts.{least_of_span, greatest_in}
use Rattle.ground_form.specs.Meaning.{value_of, sum_at, term_vars}
use Rattle.ground_form.specs.Bounds.{low_of, high_of, least_term, greatest_term, least_sum, greatest_sum}
use Rattle.ground_form.specs.Solutions.{IsPoint}
use Rattle.ground_form.proofs.VarLists.{all_tail}
use Rattle.ground_form.proofs.Products.{mul_least, mul_greatest}

pub low_le : (rs : Ranges) (v : ℤ) → IsValid rs → has rs v ≡ true → low_of rs ≤ℤ v
low_le [] v s h = absurd cc
low_le (r ∷ rs) v s h = (least_of_span _ _ r rs s).none_below v h

pub le_high : (rs : Ranges) (v : ℤ) → IsValid rs → has rs v ≡ true → v ≤ℤ high_of rs
le_high [] v s h = absurd cc
le_high (r ∷ rs) v s h = (greatest_in _ _ r rs s).none_above v h

-- a variable's value at a point
pub value_low : (boxes : Boxes) (a : List ℤ) (x : ℕ) → All (λ d. IsValid d) boxes → IsPoint boxes a → x < length boxes → low_of (box_of boxes x) ≤ℤ value_of a x
value_low boxes a x valid p h = low_le (box_of boxes x) (value_of a x) (valid x [] h) (p.within x h)

pub value_high : (boxes : Boxes) (a : List ℤ) (x : ℕ) → All (λ d. IsValid d) boxes → IsPoint boxes a → x < length boxes → value_of a x ≤ℤ high_of (box_of boxes x)
value_high boxes a x valid p h = le_high (box_of boxes x) (value_of a x) (valid x [] h) (p.within x h)

least_le : (t : ℤ × ℕ) (boxes : Boxes) (v : ℤ) → low_of (box_of boxes t.1) ≤ℤ v → v ≤ℤ high_of (box_of boxes t.1) → least_term t boxes ≤ℤ (t.0 *ℤ v)
unfolding least_term
least_le t boxes v h k = mul_least t.0 (low_of (box_of boxes t.1)) (high_of (box_of boxes t.1)) v h k

le_greatest : (t : ℤ × ℕ) (boxes : Boxes) (v : ℤ) → low_of (box_of boxes t.1) ≤ℤ v → v ≤ℤ high_of (box_of boxes t.1) → (t.0 *ℤ v) ≤ℤ greatest_term t boxes
unfolding greatest_term
le_greatest t boxes v h k = mul_greatest t.0 (low_of (box_of boxes t.1)) (high_of (box_of boxes t.1)) v h k

pub least_sum_le : (ts : List (ℤ × ℕ)) (boxes : Boxes) (a : List ℤ) → All (λ x. x < length boxes) (term_vars ts) → All (λ d. IsValid d) boxes → IsPoint boxes a → least_sum ts boxes ≤ℤ sum_at ts a
least_sum_le [] boxes a h valid p = omega (arith, ints)
least_sum_le (t ∷ ts) boxes a h valid p =
    let there = h 0 0 (omega arith) in
    let first = least_le t boxes (value_of a t.1) (value_low boxes a t.1 valid p there) (value_high boxes a t.1 valid p there) in
    let rest = least_sum_le ts boxes a (all_tail t.1 (term_vars ts) (length boxes) h) valid p in omega (arith, ints)

pub le_greatest_sum : (ts : List (ℤ × ℕ)) (boxes : Boxes) (a : List ℤ) → All (λ x. x < length boxes) (term_vars ts) → All (λ d. IsValid d) boxes → IsPoint boxes a → sum_at ts a ≤ℤ greatest_sum ts boxes
le_greatest_sum [] boxes a h valid p = omega (arith, ints)
le_greatest_sum (t ∷ ts) boxes a h valid p =
    let there = h 0 0 (omega arith) in
    let first = le_greatest t boxes (value_of a t.1) (value_low boxes a t.1 valid p there) (value_high boxes a t.1 valid p there) in
    let rest = le_greatest_sum ts boxes a (all_tail t.1 (term_vars ts) (length boxes) h) valid p in omega (arith, ints)
