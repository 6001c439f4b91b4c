-- How great and how small merged and scaled lists are over boxes.
use Rattle.std.proofs.Common.{◌≡◌, ℕ, ◌+◌, ◌*◌, ◌≤◌, Bool, true, false, cond, List, [], ◌∷◌, ℤ, pos, ◌+ℤ◌, ◌-ℤ◌, ◌≤ℤ◌, unsigned_abs, refl, ap, subst, arith}
use Rattle.std.specs.Prelude.{nat_lt}
use Rattle.std.specs.Ordering.{int_eq}
use Rattle.std.proofs.lemmas.Int.{ints, clamps}
use Rattle.std.proofs.lemmas.Bool.Decides.{nat_tests}
use Rattle.std.proofs.Math.IntN.{zero-*ℤ}
use Rattle.std.proofs.Math.Nat.{mul-le-mul_right}
use Rattle.signed_clause.specs.Clauses.{Boxes, box_of}
use Rattle.ground_form.specs.Bounds.{low_of, high_of, reach_of, term_weight, weight_of, least_term, greatest_term, least_sum, greatest_sum}
use Rattle.form_build.specs.Merged.{with_term, merge_from, merged}
use Rattle.form_build.proofs.Distributing.{distribute}

-- ---- a number of each term, added up

abbrev total : (ℤ × ℕ → ℤ) → List (ℤ × ℕ) → ℤ
total F [] = pos 0
total F (t ∷ ts) = F t +ℤ total F ts

-- two terms of one variable are together no more than apart
record IsSubadditive (F : ℤ × ℕ → ℤ) : Type 0 where
  joined : (c d : ℤ) (x : ℕ) → F (c +ℤ d, x) ≤ℤ (F (c, x) +ℤ F (d, x))
  none : (x : ℕ) → pos 0 ≤ℤ F (pos 0, x)

with_term_total : (F : ℤ × ℕ → ℤ) (c : ℤ) (x : ℕ) (ts : List (ℤ × ℕ)) → IsSubadditive F → total F (with_term c x ts) ≤ℤ (F (c, x) +ℤ total F ts)
with_term_total F c x ts s = by (int_eq c (pos 0)) refl
  where
    by : (b : Bool) → int_eq c (pos 0) ≡ b → total F (cond b ts ((c, x) ∷ ts)) ≤ℤ (F (c, x) +ℤ total F ts)
    by true e =
        let is : pos 0 ≡ c = grind (arith, ints) in
        let nil = subst (λ (z : ℤ). pos 0 ≤ℤ F (z, x)) is (s.none x) in omega (arith, ints, nil)
    by false e = omega (arith, ints)

abbrev IsLess : (ℤ × ℕ → ℤ) → (List (ℤ × ℕ) → List (ℤ × ℕ)) → List (ℤ × ℕ) → Type 0
IsLess F rest ts = (b : List (ℤ × ℕ)) → total F (rest b) ≤ℤ (total F ts +ℤ total F b)

merge_from_total : (F : ℤ × ℕ → ℤ) (rest : List (ℤ × ℕ) → List (ℤ × ℕ)) (t : ℤ × ℕ) (ts b : List (ℤ × ℕ)) → IsSubadditive F → IsLess F rest ts → total F (merge_from rest t b) ≤ℤ (total F (t ∷ ts) +ℤ total F b)
merge_from_total F rest t ts [] s h = let k = h [] in omega (arith, ints, k)
merge_from_total F rest t ts (u ∷ b) s h = by (nat_lt t.1 u.1) (nat_lt u.1 t.1) refl refl (merge_from_total F rest t ts b s h)
  where
    by : (p q : Bool) → nat_lt t.1 u.1 ≡ p → nat_lt u.1 t.1 ≡ q → total F (merge_from rest t b) ≤ℤ (total F (t ∷ ts) +ℤ total F b) → total F (cond p (t ∷ rest (u ∷ b)) (cond q (u ∷ merge_from rest t b) (with_term (t.0 +ℤ u.0) t.1 (rest b)))) ≤ℤ (total F (t ∷ ts) +ℤ total F (u ∷ b))
    by true q e f g = let k = h (u ∷ b) in omega (arith, ints, k)
    by false true e f g = omega (arith, ints, g)
    by false false e f g =
        let same : u.1 ≡ t.1 = grind (arith, nat_tests) in
        let k = h b in
        let one = with_term_total F (t.0 +ℤ u.0) t.1 (rest b) s in
        let two = s.joined t.0 u.0 t.1 in
        let three = ap (λ (x : ℕ). F (u.0, x)) same in
        omega (arith, ints, k, one, two, three)

merged_total : (F : ℤ × ℕ → ℤ) (ts us : List (ℤ × ℕ)) → IsSubadditive F → total F (merged ts us) ≤ℤ (total F ts +ℤ total F us)
merged_total F [] us s = omega (arith, ints)
merged_total F (t ∷ ts) us s = merge_from_total F (merged ts) t ts us s (λ b. merged_total F ts b s)

-- ---- weight

weight_total : (boxes : Boxes) (ts : List (ℤ × ℕ)) → total (λ t. pos (term_weight t boxes)) ts ≡ pos (weight_of ts boxes)
weight_total boxes [] = refl
weight_total boxes (t ∷ ts) = let rest = weight_total boxes ts in omega (arith, ints, rest)

abs_plus : (x y : ℤ) → unsigned_abs (x +ℤ y) ≤ unsigned_abs x + unsigned_abs y
abs_plus x y = grind (arith, ints)

weight_joined : (boxes : Boxes) (c d : ℤ) (x : ℕ) → term_weight (c +ℤ d, x) boxes ≤ term_weight (c, x) boxes + term_weight (d, x) boxes
unfolding term_weight
weight_joined boxes c d x =
    let r = reach_of (box_of boxes x) in
    let m : unsigned_abs (c +ℤ d) * r ≤ (unsigned_abs c + unsigned_abs d) * r = mul-le-mul_right r (abs_plus c d) in
    omega (arith, m)

pub merged_weight : (boxes : Boxes) (ts us : List (ℤ × ℕ)) → weight_of (merged ts us) boxes ≤ weight_of ts boxes + weight_of us boxes
merged_weight boxes ts us =
    let all = merged_total (λ t. pos (term_weight t boxes)) ts us (record { joined = λ c d x. let k = weight_joined boxes c d x in omega (arith, ints, k); none = λ x. omega (arith, ints) }) in
    let one = weight_total boxes ts in
    let two = weight_total boxes us in
    let both = weight_total boxes (merged ts us) in
    omega (arith, ints, all, one, two, both)

-- ---- the greatest and the least

greatest_total : (boxes : Boxes) (ts : List (ℤ × ℕ)) → total (λ t. greatest_term t boxes) ts ≡ greatest_sum ts boxes
greatest_total boxes [] = refl
greatest_total boxes (t ∷ ts) = let rest = greatest_total boxes ts in omega (arith, ints, rest)

greatest_joined : (boxes : Boxes) (c d : ℤ) (x : ℕ) → greatest_term (c +ℤ d, x) boxes ≤ℤ (greatest_term (c, x) boxes +ℤ greatest_term (d, x) boxes)
unfolding greatest_term
greatest_joined boxes c d x =
    let low = distribute c d (low_of (box_of boxes x)) in
    let high = distribute c d (high_of (box_of boxes x)) in
    omega (arith, ints, clamps, low, high)

greatest_none : (boxes : Boxes) (x : ℕ) → greatest_term (pos 0, x) boxes ≡ pos 0
unfolding greatest_term
greatest_none boxes x =
    let low = zero-*ℤ (low_of (box_of boxes x)) in
    let high = zero-*ℤ (high_of (box_of boxes x)) in
    omega (arith, ints, clamps, low, high)

pub merged_greatest : (boxes : Boxes) (ts us : List (ℤ × ℕ)) → greatest_sum (merged ts us) boxes ≤ℤ (greatest_sum ts boxes +ℤ greatest_sum us boxes)
merged_greatest boxes ts us =
    let all = merged_total (λ t. greatest_term t boxes) ts us (record { joined = greatest_joined boxes; none = λ x. let k = greatest_none boxes x in omega (arith, ints, k) }) in
    let one = greatest_total boxes ts in
    let two = greatest_total boxes us in
    let both = greatest_total boxes (merged ts us) in
    omega (arith, ints, all, one, two, both)

least_total : (boxes : Boxes) (ts : List (ℤ × ℕ)) → total (λ t. pos 0 -ℤ least_term t boxes) ts ≡ pos 0 -ℤ least_sum ts boxes
least_total boxes [] = refl
least_total boxes (t ∷ ts) = let rest = least_total boxes ts in omega (arith, ints, rest)

least_joined : (boxes : Boxes) (c d : ℤ) (x : ℕ) → (least_term (c, x) boxes +ℤ least_term (d, x) boxes) ≤ℤ least_term (c +ℤ d, x) boxes
unfolding least_term
least_joined boxes c d x =
    let low = distribute c d (low_of (box_of boxes x)) in
    let high = distribute c d (high_of (box_of boxes x)) in
    omega (arith, ints, clamps, low, high)

least_none : (boxes : Boxes) (x : ℕ) → least_term (pos 0, x) boxes ≡ pos 0
unfolding least_term
least_none boxes x =
    let low = zero-*ℤ (low_of (box_of boxes x)) in
    let high = zero-*ℤ (high_of (box_of boxes x)) in
    omega (arith, ints, clamps, low, high)

pub merged_least : (boxes : Boxes) (ts us : List (ℤ × ℕ)) → (least_sum ts boxes +ℤ least_sum us boxes) ≤ℤ least_sum (merged ts us) boxes
merged_least boxes ts us =
    let all = merged_total (λ t. pos 0 -ℤ least_term t boxes) ts us (record { joined = λ c d x. let k = least_joined boxes c d x in omega (arith, ints, k); none = λ x. let k = least_none boxes x in omega (arith, ints, k) }) in
    let one = least_total boxes ts in
    let two = least_total boxes us in
    let both = least_total boxes (merged ts us) in
    omega (arith, ints, all, one, two, both)
