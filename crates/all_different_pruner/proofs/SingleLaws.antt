-- What is found of a value that a variable has alone.
use Rattle.std.proofs.Common.{◌≡◌, ℕ, zero, suc, ◌<◌, ◌≤◌, ◌+◌, Bool, true, false, not, ◌&&◌, ◌||◌, cond, List, [], ◌∷◌, ℤ, All, length, drop, get_or, refl, arith, inl, inr, subst, sym, ap, ◌∙◌}
use Rattle.std.specs.Prelude.{◌==◌, int_lt}
use Rattle.std.proofs.lemmas.Int.{ints}
use Rattle.std.proofs.lemmas.Bool.Decides.{nat_tests}
use Rattle.std.proofs.lemmas.Bool.{or_cases, and_parts, false_from_ne_true}
use Rattle.signed_clause.specs.Ranges.{Ranges, has, is_nil, IsValid}
use Rattle.signed_clause.specs.SetAlgebra.{is_disjoint}
use Rattle.signed_clause.specs.Clauses.{Boxes, box_of}
use Rattle.signed_clause.proofs.RangeSteps.{left_at}
use Rattle.ground_form.specs.Bounds.{low_of, high_of}
use Rattle.box_rules.specs.Refuted.{lies_in, count_in}
use Rattle.box_rules.proofs.CrowdLaws.{in_parts}
use Rattle.box_view.proofs.EndLaws.{are_sets, ends_in_order, has_low}
use Rattle.box_view.proofs.SetLaws.{single-is_disjoint}
use Rattle.box_view.proofs.Leaving.{value_valid}
use Rattle.rule_law.specs.Reasons.{has_number, no_repeat}
use Rattle.all_different_pruner.specs.Intervals.{is_outside, IsCrowd, IsIntruder, IsAlone, AreAlone, IsRival, HaveNoRival}
use Rattle.all_different_pruner.proofs.Fixpoint.{lies_once}

-- ---- two boxes within

lies_here : (a b : ℤ) (x : ℕ) (xs : List ℕ) (boxes : Boxes) → lies_in a b (box_of boxes x) ≡ true → count_in a b (x ∷ xs) boxes ≡ suc (count_in a b xs boxes)
lies_here a b x xs boxes h = rw h refl

more_in : (a b : ℤ) (x : ℕ) (xs : List ℕ) (boxes : Boxes) → count_in a b xs boxes ≤ count_in a b (x ∷ xs) boxes
more_in a b x xs boxes =
    elim (lies_in a b (box_of boxes x)) as (λ t. count_in a b xs boxes ≤ cond t (suc (count_in a b xs boxes)) (count_in a b xs boxes)) [ true ↦ omega arith | false ↦ omega arith ]

lies_twice : (a b : ℤ) (x y : ℕ) (xs : List ℕ) (boxes : Boxes) → (y ≡ x → ⊥) → has_number x xs ≡ true → has_number y xs ≡ true →
    lies_in a b (box_of boxes x) ≡ true → lies_in a b (box_of boxes y) ≡ true → 2 ≤ count_in a b xs boxes
lies_twice a b x y [] boxes d h k l m = absurd (grind arith)
lies_twice a b x y (z ∷ zs) boxes d h k l m =
    elim (or_cases (z == x) (has_number x zs) h) [
      | inl e ↦ let same : z ≡ x = grind (arith, nat_tests) in
          elim (or_cases (z == y) (has_number y zs) k) [
            | inl f ↦ absurd (let other : z ≡ y = grind (arith, nat_tests) in d (sym other ∙ same))
            | inr f ↦
                let rest = lies_once a b y zs boxes f m in
                let here = lies_here a b z zs boxes (subst (λ (w : ℕ). lies_in a b (box_of boxes w) ≡ true) (sym same) l) in omega (arith, rest, here)
          ]
      | inr e ↦ elim (or_cases (z == y) (has_number y zs) k) [
        | inl f ↦
            let same : z ≡ y = grind (arith, nat_tests) in
            let rest = lies_once a b x zs boxes e l in
            let here = lies_here a b z zs boxes (subst (λ (w : ℕ). lies_in a b (box_of boxes w) ≡ true) (sym same) m) in omega (arith, rest, here)
        | inr f ↦ let rest = lies_twice a b x y zs boxes d e f l m in let more = more_in a b z zs boxes in omega (arith, rest, more)
      ]
    ]

pub crowd_of : (a : ℤ) (x y : ℕ) (xs : List ℕ) (boxes : Boxes) → IsRival x a y xs boxes → has_number x xs ≡ true → lies_in a a (box_of boxes x) ≡ true → lies_in a a (box_of boxes y) ≡ true → IsCrowd a a xs boxes
crowd_of a x y xs boxes r there h k =
    let two = lies_twice a a x y xs boxes r.differ there r.there h k in
    record { order = omega (arith, ints); more = omega (arith, ints, two) }

pub intruder_of : (a : ℤ) (x y : ℕ) (xs : List ℕ) (boxes : Boxes) → All (λ s. IsValid s) boxes → IsRival x a y xs boxes → has_number x xs ≡ true → lies_in a a (box_of boxes x) ≡ true → lies_in a a (box_of boxes y) ≡ false → IsIntruder a a y xs boxes
intruder_of a x y xs boxes sets r there h k =
    let s = are_sets boxes sets y in
    let one = lies_once a a x xs boxes there h in
    let meets : is_disjoint (box_of boxes y) ((a, a) ∷ []) ≡ false =
    single-is_disjoint a (box_of boxes y) (value_valid (box_of boxes y) a s r.can) s ∙ ap (λ (b : Bool). not b) r.can in
    record { order = omega (arith, ints); full = omega (arith, ints, one); there = r.there; reaches = rw (k, meets) refl }

-- ---- no other box has the value

-- a box that has one value alone has it
alone_has : (a : ℤ) (s : Ranges) → IsValid s → is_nil s ≡ false → lies_in a a s ≡ true → has s a ≡ true
alone_has a s f n h =
    let parts = in_parts a a s h in
    let order = ends_in_order s f in
    let same : low_of s ≡ a = omega (arith, ints, parts, order) in
    subst (λ (v : ℤ). has s v ≡ true) same (has_low s f n)

pub record AreSome (xs : List ℕ) (boxes : Boxes) : Type 0 where
  pub sets : All (λ s. IsValid s) boxes
  pub some : (x : ℕ) → x < length boxes → is_nil (box_of boxes x) ≡ false
  pub named : All (λ x. x < length boxes) xs

pub some_tail : (x : ℕ) (xs : List ℕ) (boxes : Boxes) → AreSome (x ∷ xs) boxes → AreSome xs boxes
some_tail x xs boxes t = record { sets = t.sets; some = t.some; named = λ k d lt. t.named (suc k) d (omega arith) }

apart : (a : ℤ) (x y : ℕ) (boxes : Boxes) → IsValid (box_of boxes y) → is_nil (box_of boxes y) ≡ false → (y == x || not (has (box_of boxes y) a)) ≡ true → (y == x) ≡ false → lies_in a a (box_of boxes y) ≡ false
apart a x y boxes f n h k =
    false_from_ne_true (lies_in a a (box_of boxes y)) (λ q. let there = alone_has a (box_of boxes y) f n q in grind arith)

none_lie : (a : ℤ) (x : ℕ) (xs : List ℕ) (boxes : Boxes) → AreSome xs boxes → HaveNoRival x a xs boxes → has_number x xs ≡ false → count_in a a xs boxes ≡ 0
none_lie a x [] boxes t h k = refl
none_lie a x (y ∷ ys) boxes t h k =
    let other : (y == x) ≡ false = grind arith in
    let rest : has_number x ys ≡ false = grind arith in
    let out = apart a x y boxes (are_sets boxes t.sets y) (t.some y (t.named 0 0 (omega arith))) (h 0 0 (omega arith)) other in
    rw out (none_lie a x ys boxes (some_tail y ys boxes t) (λ j d lt. h (suc j) d (omega arith)) rest)

few_lie : (a : ℤ) (x : ℕ) (xs : List ℕ) (boxes : Boxes) → AreSome xs boxes → HaveNoRival x a xs boxes → no_repeat xs ≡ true → count_in a a xs boxes ≤ 1
few_lie a x [] boxes t h k = omega arith
few_lie a x (y ∷ ys) boxes t h k =
    let parts = and_parts (not (has_number y ys)) (no_repeat ys) k in
    let tail = some_tail y ys boxes t in
    let P : Bool → Type 0 = λ b. (y == x) ≡ b → count_in a a (y ∷ ys) boxes ≤ 1 in
    (elim (y == x) as P [
      | true ↦ λ e.
          let same : y ≡ x = grind (arith, nat_tests) in
          let gone : has_number y ys ≡ false = grind arith in
          let none = none_lie a x ys boxes tail (λ j d lt. h (suc j) d (omega arith)) (subst (λ (z : ℕ). has_number z ys ≡ false) same gone) in
          elim (lies_in a a (box_of boxes y)) as (λ b. cond b (suc (count_in a a ys boxes)) (count_in a a ys boxes) ≤ 1) [ true ↦ omega (arith, none) | false ↦ omega (arith, none) ]
      | false ↦ λ e.
          let out = apart a x y boxes (are_sets boxes t.sets y) (t.some y (t.named 0 0 (omega arith))) (h 0 0 (omega arith)) e in
          rw out (few_lie a x ys boxes tail (λ j d lt. h (suc j) d (omega arith)) parts.1)
    ]) refl

out_one : (a : ℤ) (x y : ℕ) (boxes : Boxes) → All (λ s. IsValid s) boxes → IsValid ((a, a) ∷ []) → lies_in a a (box_of boxes x) ≡ true → (y == x || not (has (box_of boxes y) a)) ≡ true → is_outside a a (box_of boxes y) ≡ true
out_one a x y boxes sets v h k =
    let apart_it = single-is_disjoint a (box_of boxes y) v (are_sets boxes sets y) in
    elim (or_cases (y == x) (not (has (box_of boxes y) a)) k) [
      | inl e ↦ let same : y ≡ x = grind (arith, nat_tests) in
          let here = subst (λ (z : ℕ). lies_in a a (box_of boxes z) ≡ true) (sym same) h in rw here refl
      | inr e ↦ let gone : is_disjoint (box_of boxes y) ((a, a) ∷ []) ≡ true = apart_it ∙ e in grind arith
    ]

pub alone_of : (a : ℤ) (x : ℕ) (xs : List ℕ) (boxes : Boxes) → All (λ s. IsValid s) boxes → ((y : ℕ) → y < length boxes → is_nil (box_of boxes y) ≡ false) → All (λ y. y < length boxes) xs → no_repeat xs ≡ true →
    x < length boxes → lies_in a a (box_of boxes x) ≡ true → HaveNoRival x a xs boxes → IsAlone a xs boxes
alone_of a x xs boxes sets some named once var h k =
    let s = are_sets boxes sets x in
    let v = value_valid (box_of boxes x) a s (alone_has a (box_of boxes x) s (some x var) h) in
    record {
      few = few_lie a x xs boxes (record { sets = sets; some = some; named = named }) k once;
      outside = λ j d lt. out_one a x (get_or xs j d) boxes sets v h (k j d lt);
    }

-- ---- one variable more

no_rival_cons : (x : ℕ) (a : ℤ) (y : ℕ) (ys : List ℕ) (boxes : Boxes) → (y == x || not (has (box_of boxes y) a)) ≡ true → HaveNoRival x a ys boxes → HaveNoRival x a (y ∷ ys) boxes
no_rival_cons x a y ys boxes here rest zero d lt = here
no_rival_cons x a y ys boxes here rest (suc j) d lt = rest j d (omega arith)

pub no_rival_step : (x : ℕ) (a : ℤ) (xs : List ℕ) (boxes : Boxes) (k y : ℕ) → k < length xs → y ≡ get_or xs k 0 → (y == x || not (has (box_of boxes y) a)) ≡ true → HaveNoRival x a (drop (k + 1) xs) boxes → HaveNoRival x a (drop k xs) boxes
no_rival_step x a xs boxes k y h e here rest = subst (λ (z : List ℕ). HaveNoRival x a z boxes) (sym (left_at xs k y 0 h e)) (no_rival_cons x a y (drop (k + 1) xs) boxes here rest)

alone_cons : (y : ℕ) (ys xs : List ℕ) (boxes : Boxes) → (int_lt (low_of (box_of boxes y)) (high_of (box_of boxes y)) ≡ false → IsAlone (low_of (box_of boxes y)) xs boxes) → AreAlone ys xs boxes → AreAlone (y ∷ ys) xs boxes
alone_cons y ys xs boxes here rest zero d lt = here
alone_cons y ys xs boxes here rest (suc j) d lt = rest j d (omega arith)

pub alone_step : (xs : List ℕ) (boxes : Boxes) (k y : ℕ) → k < length xs → y ≡ get_or xs k 0 → (int_lt (low_of (box_of boxes y)) (high_of (box_of boxes y)) ≡ false → IsAlone (low_of (box_of boxes y)) xs boxes) → AreAlone (drop (k + 1) xs) xs boxes → AreAlone (drop k xs) xs boxes
alone_step xs boxes k y h e here rest = subst (λ (z : List ℕ). AreAlone z xs boxes) (sym (left_at xs k y 0 h e)) (alone_cons y (drop (k + 1) xs) xs boxes here rest)

-- ---- what the code tests

pub rival_by : (x : ℕ) (a : ℤ) (y : ℕ) (xs : List ℕ) (boxes : Boxes) → has_number y xs ≡ true → (not (y == x) && has (box_of boxes y) a) ≡ true → IsRival x a y xs boxes
rival_by x a y xs boxes there h =
    let parts = and_parts (not (y == x)) (has (box_of boxes y) a) h in
    record { differ = λ e. (let t : (y == x) ≡ true = grind (arith, nat_tests) in absurd (grind arith)); there = there; can = parts.1 }

pub no_rival_by : (p q : Bool) → (not p && q) ≡ false → (p || not q) ≡ true
no_rival_by true q h = refl
no_rival_by false true h = absurd cc
no_rival_by false false h = refl
