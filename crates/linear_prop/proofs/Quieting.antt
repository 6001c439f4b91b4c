-- Rows that have nothing to say, and the constraints that are quiet then.
use Rattle.std.proofs.Common.{◌≡◌, ℕ, suc, zero, ◌<◌, ◌==◌, Bool, true, false, not, cond, List, [], ◌∷◌, ℤ, pos, negsuc, ◌+ℤ◌, ◌-ℤ◌, ◌*ℤ◌, ◌≤ℤ◌, ◌<ℤ◌, length, refl, ap, sym, subst, ◌∙◌, inl, inr, arith}
use Rattle.std.specs.Prelude.{nat_le}
use Rattle.std.specs.Int.{int_min, int_max}
use Rattle.std.proofs.lemmas.Bool.{and_parts, cases_eq}
use Rattle.std.proofs.lemmas.Int.{ints, clamps}
use Rattle.signed_clause.specs.Ranges.{Ranges, has, in_range, is_nil, count_of, IsValid, Ascends}
use Rattle.signed_clause.specs.Clauses.{Boxes, box_of}
use Rattle.ground_form.specs.declared.con.Con.{Con}
use Rattle.ground_form.specs.Meaning.{vars_of, term_vars}
use Rattle.ground_form.specs.Bounds.{low_of, high_of, least_term, greatest_term, least_sum, greatest_sum}
use Rattle.ground_form.proofs.Products.{mul_greatest}
use Rattle.box_rules.specs.Refuted.{width, some_empty, refuted}
use Rattle.box_view.specs.Views.{fixing}
use Rattle.box_rules.specs.Quiet.{values_from, values_of, probed, none_refutes, quiet_at, quiet}
use Rattle.box_rules.specs.Named.{Agree}
use Rattle.rule_law.specs.Reasons.{has_number, no_repeat}
use Rattle.box_rules.proofs.Agreeing.{agree_least}
use Rattle.box_view.proofs.EndLaws.{above_low, below_high, ends_in_order, has_low, has_high}
use Rattle.box_view.proofs.SetLaws.{fixing_same, fixing_other}
use Rattle.box_rules.proofs.QuietLaws.{none_append}
use Rattle.linear_prop.specs.Rows.{negated, greatest_spread}
use Rattle.linear_prop.specs.Explaining.{IsTight}
use Rattle.linear_prop.proofs.Spreads.{least_is, greatest_is}

-- ---- values that are probed are values of the box

from_each : (con : Con) (boxes : Boxes) (x n : ℕ) (a : ℤ) → ((v : ℤ) → a ≤ℤ v → v <ℤ (a +ℤ pos n) → refuted con (fixing boxes x v) ≡ false) → none_refutes con boxes x (values_from n a) ≡ true
from_each con boxes x zero a h = refl
from_each con boxes x (suc n) a h =
    let one = h a (omega (arith, ints)) (omega (arith, ints)) in
    let more = from_each con boxes x n (a +ℤ pos 1) (λ v l k. h v (omega (arith, ints)) (omega (arith, ints))) in grind arith

range_each : (con : Con) (boxes : Boxes) (x : ℕ) (r : ℤ × ℤ) → r.0 ≤ℤ r.1 → ((v : ℤ) → in_range r v ≡ true → refuted con (fixing boxes x v) ≡ false) → none_refutes con boxes x (values_from (width r.0 r.1) r.0) ≡ true
range_each con boxes x r o h = from_each con boxes x (width r.0 r.1) r.0 (λ v l k. h v (grind (arith, ints)))

all_each : (con : Con) (boxes : Boxes) (x : ℕ) (low top : ℤ) (rs : Ranges) → Ascends low top rs → ((v : ℤ) → has rs v ≡ true → refuted con (fixing boxes x v) ≡ false) → none_refutes con boxes x (values_of rs) ≡ true
all_each con boxes x low top [] s h = refl
all_each con boxes x low top (r ∷ rs) s h =
    let one = range_each con boxes x r s.1 (λ v k. h v (grind arith)) in
    let more = all_each con boxes x (r.1 +ℤ pos 2) top rs s.2 (λ v k. h v (grind arith)) in
    none_append con boxes x (values_from (width r.0 r.1) r.0) (values_of rs) ∙ rw (one, more) refl

probed_each : (con : Con) (boxes : Boxes) (x : ℕ) (s : Ranges) (few : Bool) → nat_le (count_of s) 64 ≡ few → IsValid s → is_nil s ≡ false → ((v : ℤ) → has s v ≡ true → refuted con (fixing boxes x v) ≡ false) →
    none_refutes con boxes x (cond few (values_of s) (low_of s ∷ high_of s ∷ [])) ≡ true
probed_each con boxes x s true e f n h = all_each con boxes x _ _ s f h
probed_each con boxes x s false e f n h =
    let one = h (low_of s) (has_low s f n) in let two = h (high_of s) (has_high s f n) in rw (one, two) refl

-- ---- no value of a box refutes

-- boxes of the variables are sets that aren't empty
pub record AreSome (boxes : Boxes) (xs : List ℕ) : Type 0 where
  pub sets : (x : ℕ) → IsValid (box_of boxes x)
  pub some : (x : ℕ) → has_number x xs ≡ true → is_nil (box_of boxes x) ≡ false
  pub named : (x : ℕ) → has_number x xs ≡ true → x < length boxes

quiet_each : (con : Con) (boxes : Boxes) (all xs : List ℕ) → AreSome boxes all → ((x : ℕ) → has_number x xs ≡ true → has_number x all ≡ true) →
    ((x : ℕ) (v : ℤ) → has_number x all ≡ true → has (box_of boxes x) v ≡ true → refuted con (fixing boxes x v) ≡ false) → quiet_at con boxes xs ≡ true
quiet_each con boxes all [] s sub h = refl
quiet_each con boxes all (x ∷ xs) s sub h =
    let here : has_number x all ≡ true = sub x (grind arith) in
    let one : none_refutes con boxes x (probed (box_of boxes x)) ≡ true =
    probed_each con boxes x (box_of boxes x) (nat_le (count_of (box_of boxes x)) 64) refl (s.sets x) (s.some x here) (λ v k. h x v here k) in
    let more = quiet_each con boxes all xs s (λ y k. sub y (grind arith)) h in rw (one, more) refl

pub quiet_law : (con : Con) (boxes : Boxes) → AreSome boxes (vars_of con) → refuted con boxes ≡ false →
    ((x : ℕ) (v : ℤ) → has_number x (vars_of con) ≡ true → has (box_of boxes x) v ≡ true → refuted con (fixing boxes x v) ≡ false) → quiet con boxes ≡ true
unfolding quiet
quiet_law con boxes s r h = let at = quiet_each con boxes (vars_of con) (vars_of con) s (λ x k. k) h in rw (r, at) refl

pub none_empty : (xs : List ℕ) (boxes : Boxes) → ((x : ℕ) → has_number x xs ≡ true → is_nil (box_of boxes x) ≡ false) → some_empty xs boxes ≡ false
none_empty [] boxes h = refl
none_empty (x ∷ xs) boxes h =
    let one = h x (grind arith) in let more = none_empty xs boxes (λ y k. h y (grind arith)) in rw (one, more) refl

pub fixing_some : (boxes : Boxes) (x y : ℕ) (v : ℤ) → x < length boxes → is_nil (box_of boxes y) ≡ false → is_nil (box_of (fixing boxes x v) y) ≡ false
fixing_some boxes x y v h n =
    elim (cases_eq y x) [
      | inl e ↦ ap (λ (z : ℕ). is_nil (box_of (fixing boxes x v) z)) e ∙ ap (λ (s : Ranges). is_nil s) (fixing_same boxes x v h)
      | inr e ↦ ap (λ (s : Ranges). is_nil s) (fixing_other boxes x y v e) ∙ n
    ]

pub fixing_order : (boxes : Boxes) (x y : ℕ) (v : ℤ) → x < length boxes → IsValid (box_of boxes y) → low_of (box_of (fixing boxes x v) y) ≤ℤ high_of (box_of (fixing boxes x v) y)
fixing_order boxes x y v h n =
    elim (cases_eq y x) [
      | inl e ↦ subst (λ (z : ℕ). low_of (box_of (fixing boxes x v) z) ≤ℤ high_of (box_of (fixing boxes x v) z)) (sym e)
          (subst (λ (s : Ranges). low_of s ≤ℤ high_of s) (sym (fixing_same boxes x v h)) (omega (arith, ints)))
      | inr e ↦ subst (λ (s : Ranges). low_of s ≤ℤ high_of s) (sym (fixing_other boxes x y v e)) (ends_in_order (box_of boxes y) n)
    ]

-- ---- sums where one variable is set

not_same : (x y : ℕ) → (y == x) ≡ false → (y ≡ x → ⊥)
not_same x y h e = absurd (grind arith)

other_agree : (xs : List ℕ) (boxes : Boxes) (x : ℕ) (v : ℤ) → has_number x xs ≡ false → Agree (fixing boxes x v) boxes xs
other_agree [] boxes x v h = tt
other_agree (y ∷ xs) boxes x v h =
    let no : (y == x) ≡ false = grind arith in
    let rest : has_number x xs ≡ false = grind arith in
    (fixing_other boxes x y v (not_same x y no), other_agree xs boxes x v rest)

pub sum_other : (ts : List (ℤ × ℕ)) (boxes : Boxes) (x : ℕ) (v : ℤ) → has_number x (term_vars ts) ≡ false → least_sum ts (fixing boxes x v) ≡ least_sum ts boxes
sum_other ts boxes x v h = agree_least ts (fixing boxes x v) boxes (other_agree (term_vars ts) boxes x v h)

term_other : (t : ℤ × ℕ) (boxes : Boxes) (x : ℕ) (v : ℤ) → (t.1 ≡ x → ⊥) → least_term t (fixing boxes x v) ≡ least_term t boxes
term_other t boxes x v n = sym (least_is t (fixing boxes x v)) ∙ ap (λ (s : Ranges). int_min (t.0 *ℤ low_of s) (t.0 *ℤ high_of s)) (fixing_other boxes x t.1 v n) ∙ least_is t boxes

min_same : (x : ℤ) → int_min x x ≡ x
min_same x = grind arith

term_set : (t : ℤ × ℕ) (boxes : Boxes) (x : ℕ) (v : ℤ) → t.1 ≡ x → x < length boxes → least_term t (fixing boxes x v) ≡ t.0 *ℤ v
term_set t boxes x v e h =
    sym (least_is t (fixing boxes x v)) ∙ ap (λ (y : ℕ). int_min (t.0 *ℤ low_of (box_of (fixing boxes x v) y)) (t.0 *ℤ high_of (box_of (fixing boxes x v) y))) e
    ∙ ap (λ (s : Ranges). int_min (t.0 *ℤ low_of s) (t.0 *ℤ high_of s)) (fixing_same boxes x v h) ∙ min_same (t.0 *ℤ v)

term_below : (t : ℤ × ℕ) (boxes : Boxes) (v : ℤ) → IsValid (box_of boxes t.1) → has (box_of boxes t.1) v ≡ true → (t.0 *ℤ v) ≤ℤ greatest_term t boxes
term_below t boxes v f h =
    subst (λ (z : ℤ). (t.0 *ℤ v) ≤ℤ z) (greatest_is t boxes)
    (mul_greatest t.0 (low_of (box_of boxes t.1)) (high_of (box_of boxes t.1)) v (above_low (box_of boxes t.1) v f h) (below_high (box_of boxes t.1) v f h))

sum_set_at : (t : ℤ × ℕ) (ts : List (ℤ × ℕ)) (boxes : Boxes) (x : ℕ) (v w : ℤ) → x < length boxes → ((y : ℕ) → IsValid (box_of boxes y)) → has (box_of boxes x) v ≡ true →
    has_number t.1 (term_vars ts) ≡ false → greatest_spread (t ∷ ts) boxes ≤ℤ w → (least_sum ts (fixing boxes x v) ≤ℤ (least_sum ts boxes +ℤ w)) → least_sum (t ∷ ts) (fixing boxes x v) ≤ℤ (least_sum (t ∷ ts) boxes +ℤ w)
sum_set_at t ts boxes x v w h s m n g more =
    elim (cases_eq t.1 x) [
      | inl e ↦
          let one = term_set t boxes x v e h in
          let rest = sum_other ts boxes x v (ap (λ (y : ℕ). has_number y (term_vars ts)) (sym e) ∙ n) in
          let below = term_below t boxes v (s t.1) (ap (λ (y : ℕ). has (box_of boxes y) v) e ∙ m) in
          omega (arith, ints, clamps, one, rest, below, g)
      | inr e ↦ let one = term_other t boxes x v e in omega (arith, ints, one, more)
    ]

pub sum_set : (ts : List (ℤ × ℕ)) (boxes : Boxes) (x : ℕ) (v w : ℤ) → no_repeat (term_vars ts) ≡ true → x < length boxes → ((y : ℕ) → IsValid (box_of boxes y)) → has (box_of boxes x) v ≡ true →
    pos 0 ≤ℤ w → greatest_spread ts boxes ≤ℤ w → least_sum ts (fixing boxes x v) ≤ℤ (least_sum ts boxes +ℤ w)
sum_set [] boxes x v w d h s m z g = omega (arith, ints)
sum_set (t ∷ ts) boxes x v w d h s m z g =
    let p = and_parts (not (has_number t.1 (term_vars ts))) (no_repeat (term_vars ts)) d in
    let n : has_number t.1 (term_vars ts) ≡ false = let q = p.0 in grind arith in
    let more = sum_set ts boxes x v w p.1 h s m z (omega (arith, ints, clamps)) in
    sum_set_at t ts boxes x v w h s m n g more

spread_some : (ts : List (ℤ × ℕ)) (boxes : Boxes) → pos 0 ≤ℤ greatest_spread ts boxes
spread_some [] boxes = omega (arith, ints)
spread_some (t ∷ ts) boxes = let more = spread_some ts boxes in omega (arith, ints, clamps)

-- a tight row stays within its bound where a variable is set to a value of its box
pub tight_set : (ts : List (ℤ × ℕ)) (boxes : Boxes) (bound : ℤ) (x : ℕ) (v : ℤ) → IsTight ts boxes bound → no_repeat (term_vars ts) ≡ true → x < length boxes → ((y : ℕ) → IsValid (box_of boxes y)) →
    has (box_of boxes x) v ≡ true → least_sum ts (fixing boxes x v) ≤ℤ bound
tight_set ts boxes bound x v tight d h s m =
    let some = spread_some ts boxes in
    let g = sum_set ts boxes x v (greatest_spread ts boxes) d h s m some (omega (arith, ints)) in
    let t = tight.spread in omega (arith, ints)

-- ---- turned signs

product_turned : (c v : ℤ) → (pos 0 -ℤ c) *ℤ v ≡ pos 0 -ℤ (c *ℤ v)
product_turned (pos zero) v = grind (arith, ints)
product_turned (pos (suc n)) (pos v) = grind (arith, ints)
product_turned (pos (suc n)) (negsuc v) = grind (arith, ints)
product_turned (negsuc n) (pos v) = grind (arith, ints)
product_turned (negsuc n) (negsuc v) = grind (arith, ints)

term_turned : (t : ℤ × ℕ) (boxes : Boxes) → least_term (pos 0 -ℤ t.0, t.1) boxes ≡ pos 0 -ℤ greatest_term t boxes
term_turned t boxes =
    let s = box_of boxes t.1 in
    let a = product_turned t.0 (low_of s) in let b = product_turned t.0 (high_of s) in
    let g = greatest_is t boxes in
    sym (least_is (pos 0 -ℤ t.0, t.1) boxes) ∙ rw (sym g, a, b) (omega (arith, ints, clamps))

pub sum_turned : (ts : List (ℤ × ℕ)) (boxes : Boxes) → least_sum (negated ts) boxes ≡ pos 0 -ℤ greatest_sum ts boxes
sum_turned [] boxes = refl
sum_turned (t ∷ ts) boxes = let one = term_turned t boxes in let more = sum_turned ts boxes in omega (arith, ints, one, more)

pub vars_turned : (ts : List (ℤ × ℕ)) → term_vars (negated ts) ≡ term_vars ts
vars_turned [] = refl
vars_turned (t ∷ ts) = ap (λ (xs : List ℕ). t.1 ∷ xs) (vars_turned ts)

min_below_max : (x y : ℤ) → int_min x y ≤ℤ int_max x y
min_below_max x y = omega (arith, ints, clamps)

pub least_below : (ts : List (ℤ × ℕ)) (boxes : Boxes) → least_sum ts boxes ≤ℤ greatest_sum ts boxes
least_below [] boxes = omega (arith, ints)
least_below (t ∷ ts) boxes =
    let more = least_below ts boxes in
    let one : least_term t boxes ≤ℤ greatest_term t boxes = rw (sym (least_is t boxes), sym (greatest_is t boxes)) (min_below_max (t.0 *ℤ low_of (box_of boxes t.1)) (t.0 *ℤ high_of (box_of boxes t.1))) in
    omega (arith, ints, one, more)
