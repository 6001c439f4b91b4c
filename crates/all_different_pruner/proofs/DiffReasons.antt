-- Why crowded and full intervals are reasons: in what is left of the domains the interval is
-- crowded.
use Rattle.std.proofs.Common.{◌≡◌, ℕ, zero, suc, ◌≤◌, Bool, true, false, not, ◌&&◌, cond, List, [], ◌∷◌, ℤ, ◌≤ℤ◌, refl, arith, inl, inr, subst, sym, ◌∙◌}
use Rattle.std.specs.Prelude.{◌==◌, int_le}
use Rattle.std.proofs.lemmas.Int.{ints}
use Rattle.std.proofs.lemmas.Bool.Decides.{nat_tests}
use Rattle.std.proofs.lemmas.Bool.{and_parts, and_cases, and_from, or_cases, false_from_ne_true}
use Rattle.signed_clause.specs.Ranges.{Ranges, has, is_nil, IsValid}
use Rattle.signed_clause.specs.SetAlgebra.{less, meet, is_disjoint, is_within}
use Rattle.signed_clause.specs.Clauses.{Boxes, box_of}
use Rattle.signed_clause.proofs.SetFacts.{within_law}
use Rattle.signed_clause.proofs.RangeSteps.{has-less_valid, IsValid-less, has-meet_valid, IsValid-meet}
use Rattle.ground_form.specs.Bounds.{low_of, high_of}
use Rattle.box_rules.specs.Refuted.{lies_in, count_in}
use Rattle.rule_law.specs.Reasons.{has_number, no_repeat}
use Rattle.box_view.proofs.EndLaws.{below_high}
use Rattle.box_view.proofs.EndLaws.{has_low, has_high}
use Rattle.box_rules.proofs.CrowdLaws.{in_parts, in_from}
use Rattle.all_different_pruner.specs.Within.{within}
use Rattle.all_different_pruner.proofs.Fixpoint.{stands_at}

-- ---- what is left of a domain

left_has : (d s : Ranges) (v : ℤ) → IsValid d → IsValid s → has (less d (less d s)) v ≡ (has d v && has s v)
left_has d s v f g =
    let once = has-less_valid d s f g v in let twice = has-less_valid d (less d s) f (IsValid-less d s f g) v in grind arith

pub has_some : (s : Ranges) (v : ℤ) → has s v ≡ true → is_nil s ≡ false
has_some [] v h = absurd (grind arith)
has_some (r ∷ s) v h = refl

pub span_in : (a b v : ℤ) → has ((a, b) ∷ []) v ≡ true → (a ≤ℤ v) × (v ≤ℤ b)
span_in a b v h = (grind (arith, ints), grind (arith, ints))

pub left_lies : (d : Ranges) (a b v : ℤ) → IsValid d → IsValid ((a, b) ∷ []) → has d v ≡ true → has ((a, b) ∷ []) v ≡ true → lies_in a b (less d (less d ((a, b) ∷ []))) ≡ true
left_lies d a b v f g h k =
    let span : Ranges = (a, b) ∷ [] in
    let left = less d (less d span) in
    let valid : IsValid left = IsValid-less d (less d span) f (IsValid-less d span f g) in
    let here : has left v ≡ true = left_has d span v f g ∙ and_from (has d v) (has span v) h k in
    let some = has_some left v here in
    let low = and_parts (has d (low_of left)) (has span (low_of left)) (sym (left_has d span (low_of left) f g) ∙ has_low left valid some) in
    let high = and_parts (has d (high_of left)) (has span (high_of left)) (sym (left_has d span (high_of left) f g) ∙ has_high left valid some) in
    in_from a b left (span_in a b (low_of left) low.1).0 (span_in a b (high_of left) high.1).1

-- ---- values of the box

-- a box within its domain, of which v lies in the interval
pub record Shared (box d : Ranges) (a b : ℤ) : Type 0 where
  pub value : ℤ
  pub of_box : has box value ≡ true
  pub of_domain : has d value ≡ true
  pub of_span : has ((a, b) ∷ []) value ≡ true

pub shared_lies : (box d : Ranges) (a b : ℤ) → IsValid box → IsValid d → is_nil box ≡ false → is_within box d ≡ true → lies_in a b box ≡ true → Shared box d a b
shared_lies box d a b f g n i l =
    let here = has_low box f n in
    let parts = in_parts a b box l in
    let low = parts.0 in
    let top = below_high box (low_of box) f here in
    let high = parts.1 in
    record { value = low_of box; of_box = here; of_domain = (within_law box d f g).0 i (low_of box) here; of_span = grind (arith, ints) }

pub shared_reaches : (box d : Ranges) (a b : ℤ) → IsValid box → IsValid d → IsValid ((a, b) ∷ []) → is_within box d ≡ true → is_disjoint box ((a, b) ∷ []) ≡ false → Shared box d a b
shared_reaches box d a b f g h i m =
    let both = meet box ((a, b) ∷ []) in
    let v = low_of both in
    let here = has_low both (IsValid-meet box ((a, b) ∷ []) f h) m in
    let parts = and_parts (has box v) (has ((a, b) ∷ []) v) (sym (has-meet_valid box ((a, b) ∷ []) f h v) ∙ here) in
    record { value = v; of_box = parts.0; of_domain = (within_law box d f g).0 i v parts.0; of_span = parts.1 }

-- a box that doesn't lie within has a value outside
pub record Outer (box : Ranges) (a b : ℤ) : Type 0 where
  pub value : ℤ
  pub of_box : has box value ≡ true
  pub out : has ((a, b) ∷ []) value ≡ false

pub outer : (box : Ranges) (a b : ℤ) → IsValid box → is_nil box ≡ false → lies_in a b box ≡ false → Outer box a b
outer box a b f n l =
    elim (and_cases (int_le a (low_of box)) (int_le (high_of box) b) l) [
      | inl e ↦ record { value = low_of box; of_box = has_low box f n; out = grind arith }
      | inr e ↦ record { value = high_of box; of_box = has_high box f n; out = grind arith }
    ]

-- ---- the boxes within

pub within_there : (n : ℕ) (a b : ℤ) (xs : List ℕ) (boxes : Boxes) (y : ℕ) → has_number y (within n a b xs boxes) ≡ true → (has_number y xs ≡ true) × (lies_in a b (box_of boxes y) ≡ true)
within_there n a b [] boxes y h = absurd (grind arith)
within_there zero a b (x ∷ xs) boxes y h = absurd (grind arith)
within_there (suc n) a b (x ∷ xs) boxes y h =
    let P : Bool → Type 0 = λ t. lies_in a b (box_of boxes x) ≡ t → has_number y (cond t (x ∷ within n a b xs boxes) (within (suc n) a b xs boxes)) ≡ true → (has_number y (x ∷ xs) ≡ true) × (lies_in a b (box_of boxes y) ≡ true) in
    (elim (lies_in a b (box_of boxes x)) as P [
      | true ↦ λ e k. elim (or_cases (x == y) (has_number y (within n a b xs boxes)) k) [
        | inl q ↦ let same : x ≡ y = grind (arith, nat_tests) in (rw q refl, subst (λ (z : ℕ). lies_in a b (box_of boxes z) ≡ true) same e)
        | inr q ↦ let more = within_there n a b xs boxes y q in let there = more.0 in (grind arith, more.1)
      ]
      | false ↦ λ e k. let more = within_there (suc n) a b xs boxes y k in let there = more.0 in (grind arith, more.1)
    ]) refl h

pub within_once : (n : ℕ) (a b : ℤ) (xs : List ℕ) (boxes : Boxes) → no_repeat xs ≡ true → no_repeat (within n a b xs boxes) ≡ true
within_once n a b [] boxes h = refl
within_once zero a b (x ∷ xs) boxes h = refl
within_once (suc n) a b (x ∷ xs) boxes h =
    let parts = and_parts (not (has_number x xs)) (no_repeat xs) h in
    let first : has_number x (within n a b xs boxes) ≡ false = false_from_ne_true (has_number x (within n a b xs boxes)) (λ q. let there = (within_there n a b xs boxes x q).0 in grind arith) in
    let more = within_once n a b xs boxes parts.1 in
    elim (lies_in a b (box_of boxes x)) as (λ t. no_repeat (cond t (x ∷ within n a b xs boxes) (within (suc n) a b xs boxes)) ≡ true) [
      | true ↦ grind arith
      | false ↦ within_once (suc n) a b xs boxes parts.1
    ]

-- ---- how many lie within what is left

abbrev pub Lie : ℤ → ℤ → List ℕ → Boxes → Type 0
Lie a b ps cuts = (y : ℕ) → has_number y ps ≡ true → lies_in a b (box_of cuts y) ≡ true

one_more : (f : Bool) (m n : ℕ) → m ≤ n → f ≡ true → suc m ≤ cond f (suc n) n
one_more true m n h e = omega arith
one_more false m n h e = absurd cc

no_less : (f : Bool) (m n : ℕ) → m ≤ n → m ≤ cond f (suc n) n
no_less true m n h = omega arith
no_less false m n h = h

pub count_kept : (n : ℕ) (a b : ℤ) (xs : List ℕ) (boxes cuts : Boxes) → n ≤ count_in a b xs boxes → Lie a b (within n a b xs boxes) cuts → n ≤ count_in a b xs cuts
count_kept n a b [] boxes cuts h l = h
count_kept zero a b (x ∷ xs) boxes cuts h l = omega arith
count_kept (suc n) a b (x ∷ xs) boxes cuts h l =
    let P : Bool → Type 0 = λ t. suc n ≤ cond t (suc (count_in a b xs boxes)) (count_in a b xs boxes) → Lie a b (cond t (x ∷ within n a b xs boxes) (within (suc n) a b xs boxes)) cuts → suc n ≤ count_in a b (x ∷ xs) cuts in
    (elim (lies_in a b (box_of boxes x)) as P [
      | true ↦ λ k m. one_more (lies_in a b (box_of cuts x)) n (count_in a b xs cuts) (count_kept n a b xs boxes cuts (omega arith) (λ y q. m y (grind arith))) (m x (stands_at x (within n a b xs boxes)))
      | false ↦ λ k m. no_less (lies_in a b (box_of cuts x)) (suc n) (count_in a b xs cuts) (count_kept (suc n) a b xs boxes cuts k m)
    ]) h l

count_one : (a b : ℤ) (x : ℕ) (xs : List ℕ) (cuts : Boxes) → has_number x xs ≡ true → lies_in a b (box_of cuts x) ≡ true → 1 ≤ count_in a b xs cuts
count_one a b x [] cuts h l = absurd (grind arith)
count_one a b x (y ∷ ys) cuts h l =
    elim (or_cases (y == x) (has_number x ys) h) [
      | inl e ↦ let same : y ≡ x = grind (arith, nat_tests) in
          one_more (lies_in a b (box_of cuts y)) 0 (count_in a b ys cuts) (omega arith) (subst (λ (z : ℕ). lies_in a b (box_of cuts z) ≡ true) (sym same) l)
      | inr e ↦ no_less (lies_in a b (box_of cuts y)) 1 (count_in a b ys cuts) (count_one a b x ys cuts e l)
    ]

pub count_joined : (n : ℕ) (a b : ℤ) (x : ℕ) (xs : List ℕ) (boxes cuts : Boxes) → n ≤ count_in a b xs boxes → Lie a b (within n a b xs boxes) cuts → has_number x xs ≡ true → lies_in a b (box_of boxes x) ≡ false → lies_in a b (box_of cuts x) ≡ true →
    suc n ≤ count_in a b xs cuts
count_joined n a b x [] boxes cuts h l there out in_it = absurd (grind arith)
count_joined zero a b x (y ∷ ys) boxes cuts h l there out in_it = count_one a b x (y ∷ ys) cuts there in_it
count_joined (suc n) a b x (y ∷ ys) boxes cuts h l there out in_it =
    let P : Bool → Type 0 = λ t. lies_in a b (box_of boxes y) ≡ t → suc n ≤ cond t (suc (count_in a b ys boxes)) (count_in a b ys boxes) → Lie a b (cond t (y ∷ within n a b ys boxes) (within (suc n) a b ys boxes)) cuts → suc (suc n) ≤ count_in a b (y ∷ ys) cuts in
    (elim (lies_in a b (box_of boxes y)) as P [
      | true ↦ λ e k m.
          let other : has_number x ys ≡ true = elim (or_cases (y == x) (has_number x ys) there) [
            | inl q ↦ let same : y ≡ x = grind (arith, nat_tests) in let is = subst (λ (z : ℕ). lies_in a b (box_of boxes z) ≡ true) same e in absurd cc
            | inr q ↦ q
          ] in
          one_more (lies_in a b (box_of cuts y)) (suc n) (count_in a b ys cuts) (count_joined n a b x ys boxes cuts (omega arith) (λ z q. m z (grind arith)) other out in_it) (m y (stands_at y (within n a b ys boxes)))
      | false ↦ λ e k m. elim (or_cases (y == x) (has_number x ys) there) [
        | inl q ↦ let same : y ≡ x = grind (arith, nat_tests) in
            one_more (lies_in a b (box_of cuts y)) (suc n) (count_in a b ys cuts) (count_kept (suc n) a b ys boxes cuts k m) (subst (λ (z : ℕ). lies_in a b (box_of cuts z) ≡ true) (sym same) in_it)
        | inr q ↦ no_less (lies_in a b (box_of cuts y)) (suc (suc n)) (count_in a b ys cuts) (count_joined (suc n) a b x ys boxes cuts k m q out in_it)
      ]
    ]) refl h l
