-- Variables that are at a fixpoint are quiet.
use Rattle.std.proofs.Common.{◌≡◌, ℕ, suc, ◌<◌, ◌≤◌, Bool, true, false, ◌&&◌, cond, List, [], ◌∷◌, ℤ, pos, ◌+ℤ◌, ◌-ℤ◌, ◌≤ℤ◌, ◌<ℤ◌, unsigned_abs, All, length, refl, arith, inl, inr, ◌⊎◌, subst, sym}
use Rattle.std.specs.Prelude.{int_lt, int_le, nat_lt}
use Rattle.std.proofs.lemmas.Int.{ints}
use Rattle.std.proofs.lemmas.Bool.{cases_eq}
use Rattle.std.proofs.lemmas.Bool.Decides.{nat_tests}
use Rattle.std.proofs.lemmas.Bool.{and_parts, false_from_ne_true}
use Rattle.signed_clause.specs.Ranges.{Ranges, has, is_nil, in_range, Ascends}
use Rattle.signed_clause.specs.SetAlgebra.{is_disjoint, meet, piece}
use Rattle.std.specs.Int.{int_max, int_min}
use Rattle.signed_clause.proofs.RangeLaws.{has-below}
use Rattle.signed_clause.specs.Clauses.{Boxes, box_of}
use Rattle.ground_form.specs.Bounds.{low_of, high_of}
use Rattle.box_view.specs.Views.{fixing}
use Rattle.box_rules.specs.Refuted.{width, lies_in, count_in, some_crowded, some_empty}
use Rattle.box_view.proofs.EndLaws.{AreSets, ends_in_order}
use Rattle.box_view.proofs.SetLaws.{fixing_same, fixing_other}
use Rattle.box_rules.proofs.CrowdLaws.{in_parts, start_keeps, somewhere}
use Rattle.rule_law.specs.Reasons.{has_number, no_repeat}
use Rattle.all_different_pruner.specs.Intervals.{is_outside, AreOutside, IsFixpointFrom, is_narrow, AreAtFixpoint}
use Rattle.all_different_pruner.proofs.Fixpoint.{all_at, find_start, count_at_most, count_below, count_more, fixed_once}

-- ---- where an interval begins

record Begun (a b v high : ℤ) (n : ℕ) : Type 0 where
  steps : ℕ
  end : v +ℤ pos steps ≡ b
  less : steps < n
  narrow : nat_lt (width v high) n ≡ true
  within : suc steps ≤ width a b
  same : width a b ≤ suc steps → v ≡ a

begun : (a b v high : ℤ) (n : ℕ) → a ≤ℤ v → v ≤ℤ high → high ≤ℤ b → width a b < n → Begun a b v high n
begun a b v high n h k l m =
    let le : suc (unsigned_abs (high -ℤ v)) < n = omega (arith, ints) in
    record {
      steps = unsigned_abs (b -ℤ v);
      end = omega (arith, ints);
      less = omega (arith, ints);
      narrow = grind (arith, nat_tests);
      within = omega (arith, ints);
      same = λ e. omega (arith, ints);
    }

pub record IsFixpoint (a b : ℤ) (xs : List ℕ) (boxes : Boxes) : Type 0 where
  pub few : count_in a b xs boxes ≤ width a b
  pub outside : width a b ≤ count_in a b xs boxes → AreOutside a b xs boxes

-- what is at a fixpoint from the starts of narrow boxes is so in all intervals that aren't as wide
-- as there are variables
pub fixpoint_in : (a b : ℤ) (xs : List ℕ) (boxes : Boxes) → AreSets boxes → AreAtFixpoint xs xs boxes → width a b < length xs → 1 ≤ count_in a b xs boxes → IsFixpoint a b xs boxes
fixpoint_in a b xs boxes s h w c =
    let start = find_start a b xs boxes c in
    let box = box_of boxes start.variable in
    let v = low_of box in
    let parts = in_parts a b box start.lies in
    let t = begun a b v (high_of box) (length xs) parts.0 (ends_in_order box (s start.variable)) parts.1 w in
    let many = start_keeps v a b xs boxes start.keeps in
    let fixpoint = all_at (λ y. is_narrow (length xs) (box_of boxes y) ≡ true → IsFixpointFrom (low_of (box_of boxes y)) xs boxes) start.variable xs h start.there t.narrow t.steps t.less in
    let few : count_in v b xs boxes ≤ suc t.steps = subst (λ (z : ℤ). count_in v z xs boxes ≤ suc t.steps) t.end fixpoint.few in
    record {
      few = let m = t.within in omega arith;
      outside = λ q.
          let same : v ≡ a = t.same (omega arith) in
          let m = t.within in
          let full : count_in v b xs boxes ≡ suc t.steps = omega arith in
          let full_at : count_in v (v +ℤ pos t.steps) xs boxes ≡ suc t.steps = subst (λ (z : ℤ). count_in v z xs boxes ≡ suc t.steps) (sym t.end) full in
          let keeps : AreOutside v (v +ℤ pos t.steps) xs boxes = fixpoint.outside full_at in
          subst (λ (z : ℤ). AreOutside z b xs boxes) same (subst (λ (z : ℤ). AreOutside v z xs boxes) t.end keeps);
    }

-- ---- crowded intervals

record Crowd (a b : ℤ) (m : ℕ) : Type 0 where
  order : a ≤ℤ b
  more : width a b < m

crowd : (a b : ℤ) (m : ℕ) → (int_le a b && int_lt ((b -ℤ a) +ℤ pos 1) (pos m)) ≡ true → Crowd a b m
crowd a b m c =
    let parts = and_parts (int_le a b) (int_lt ((b -ℤ a) +ℤ pos 1) (pos m)) c in
    let order : a ≤ℤ b = grind (arith, ints) in
    let less : ((b -ℤ a) +ℤ pos 1) <ℤ pos m = grind (arith, ints) in
    record { order = order; more = omega (arith, ints) }

pub not_crowded : (a b : ℤ) (xs : List ℕ) (boxes : Boxes) → AreSets boxes → AreAtFixpoint xs xs boxes → width a b < count_in a b xs boxes → ⊥
not_crowded a b xs boxes s h c =
    let most = count_at_most a b xs boxes in
    let few = (fixpoint_in a b xs boxes s h (omega arith) (omega arith)).few in omega arith

-- ---- one value in place of a box

-- a box that lies within where the value does, and another box, stay within
still_in : (a b v : ℤ) (x : ℕ) (boxes : Boxes) → x < length boxes → (lies_in a b ((v, v) ∷ []) ≡ true → lies_in a b (box_of boxes x) ≡ true) →
    (y : ℕ) → lies_in a b (box_of (fixing boxes x v) y) ≡ true → lies_in a b (box_of boxes y) ≡ true
still_in a b v x boxes n h y =
    elim (cases_eq y x) [
      | inl e ↦ subst (λ (z : ℕ). lies_in a b (box_of (fixing boxes x v) z) ≡ true → lies_in a b (box_of boxes z) ≡ true) (sym e)
          (subst (λ (s : Ranges). lies_in a b s ≡ true → lies_in a b (box_of boxes x) ≡ true) (sym (fixing_same boxes x v n)) h)
      | inr e ↦ subst (λ (s : Ranges). lies_in a b s ≡ true → lies_in a b (box_of boxes y) ≡ true) (sym (fixing_other boxes x y v e)) (λ q. q)
    ]

value_in : (a b v : ℤ) → lies_in a b ((v, v) ∷ []) ≡ true → has ((a, b) ∷ []) v ≡ true
value_in a b v h = grind (arith, ints)

-- a set that misses a..b has no value there
meet_step : (a b v : ℤ) (r : ℤ × ℤ) (rest : Ranges) → is_nil (piece (int_max r.0 a) (int_min r.1 b) (cond (int_lt b r.1) [] rest)) ≡ true → (int_le a v && int_le v b) ≡ true →
    (in_range r v ≡ false) × (v ≤ℤ r.1 ⊎ (is_nil rest ≡ true))
meet_step a b v r rest h k =
    let P : Bool → Type 0 = λ t. int_le (int_max r.0 a) (int_min r.1 b) ≡ t → is_nil (cond t ((int_max r.0 a, int_min r.1 b) ∷ cond (int_lt b r.1) [] rest) (cond (int_lt b r.1) [] rest)) ≡ true → (in_range r v ≡ false) × (v ≤ℤ r.1 ⊎ (is_nil rest ≡ true)) in
    (elim (int_le (int_max r.0 a) (int_min r.1 b)) as P [
      | true ↦ λ e q. absurd cc
      | false ↦ λ e q. (
        false_from_ne_true (in_range r v) (λ in_r. grind (arith, ints)),
        (elim (int_lt b r.1) as (λ t. int_lt b r.1 ≡ t → is_nil (cond t [] rest) ≡ true → v ≤ℤ r.1 ⊎ (is_nil rest ≡ true)) [
          | true ↦ λ l m. inl (grind (arith, ints))
          | false ↦ λ l m. inr m
        ]) refl q,
      )
    ]) refl h

pub disjoint_none : (low top a b v : ℤ) (rs : Ranges) → Ascends low top rs → is_disjoint rs ((a, b) ∷ []) ≡ true → (int_le a v && int_le v b) ≡ true → has rs v ≡ false
disjoint_none low top a b v [] s h k = refl
disjoint_none low top a b v (r ∷ rs) s h k =
    let step = meet_step a b v r (meet rs ((a, b) ∷ [])) h k in
    elim step.1 [
      | inl early ↦ false_from_ne_true (has (r ∷ rs) v) (λ q. let later = has-below (r.1 +ℤ pos 2) top rs v s.2 in let out = step.0 in grind (arith, ints))
      | inr more ↦ let rest = disjoint_none (r.1 +ℤ pos 2) top a b v rs s.2 more k in let out = step.0 in grind arith
    ]

-- ---- quiet

fixed_crowd : (a b v : ℤ) (x : ℕ) (xs : List ℕ) (boxes : Boxes) → AreSets boxes → AreAtFixpoint xs xs boxes → no_repeat xs ≡ true → has_number x xs ≡ true → x < length boxes → has (box_of boxes x) v ≡ true →
    width a b < count_in a b xs (fixing boxes x v) → ⊥
fixed_crowd a b v x xs boxes s h once there n member c =
    let P : Bool → Type 0 = λ t. lies_in a b ((v, v) ∷ []) ≡ t → ⊥ in
    let Q : Bool → Type 0 = λ t. lies_in a b (box_of boxes x) ≡ t → ⊥ in
    let still : (lies_in a b ((v, v) ∷ []) ≡ true → lies_in a b (box_of boxes x) ≡ true) → ⊥ = λ k.
    let more = count_more a b xs (fixing boxes x v) boxes (still_in a b v x boxes n k) in not_crowded a b xs boxes s h (omega arith) in
    (elim (lies_in a b ((v, v) ∷ [])) as P [
      | false ↦ λ e. still (λ q. absurd cc)
      | true ↦ λ e. (elim (lies_in a b (box_of boxes x)) as Q [
        | true ↦ λ f. still (λ q. f)
        | false ↦ λ f.
            let one = fixed_once a b v x xs boxes once in
            let below = count_below a b x xs boxes there f in
            let fixpoint = fixpoint_in a b xs boxes s h (omega arith) (omega arith) in
            let keeps : AreOutside a b xs boxes = fixpoint.outside (omega arith) in
            let out = all_at (λ y. is_outside a b (box_of boxes y) ≡ true) x xs keeps there in
            let disjoint_it : is_disjoint (box_of boxes x) ((a, b) ∷ []) ≡ true = grind arith in
            let parts = in_parts a b ((v, v) ∷ []) e in
            let within_it : (int_le a v && int_le v b) ≡ true = grind (arith, ints) in
            let none = disjoint_none _ _ a b v (box_of boxes x) (s x) disjoint_it within_it in
            absurd cc
      ]) refl
    ]) refl

pub fixed_not_crowded : (v : ℤ) (x : ℕ) (xs : List ℕ) (boxes : Boxes) → AreSets boxes → AreAtFixpoint xs xs boxes → no_repeat xs ≡ true → has_number x xs ≡ true → x < length boxes → has (box_of boxes x) v ≡ true →
    some_crowded xs xs (fixing boxes x v) ≡ false
fixed_not_crowded v x xs boxes s h once there n member =
    false_from_ne_true (some_crowded xs xs (fixing boxes x v)) (λ q.
    let at = somewhere xs xs (fixing boxes x v) q in
    fixed_crowd at.0 at.1 v x xs boxes s h once there n member (crowd at.0 at.1 _ at.2).more)

pub none_crowded : (xs : List ℕ) (boxes : Boxes) → AreSets boxes → AreAtFixpoint xs xs boxes → some_crowded xs xs boxes ≡ false
none_crowded xs boxes s h =
    false_from_ne_true (some_crowded xs xs boxes) (λ q.
    let at = somewhere xs xs boxes q in not_crowded at.0 at.1 xs boxes s h (crowd at.0 at.1 _ at.2).more)

-- ---- the variables of the list, one by one

pub none_empty : (xs : List ℕ) (boxes : Boxes) → ((x : ℕ) → x < length boxes → is_nil (box_of boxes x) ≡ false) → All (λ x. x < length boxes) xs → some_empty xs boxes ≡ false
none_empty [] boxes h n = refl
none_empty (x ∷ xs) boxes h n =
    let here = h x (n 0 x (omega arith)) in let more = none_empty xs boxes h (λ k d lt. n (suc k) d (omega arith)) in grind arith

fixed_some : (boxes : Boxes) (x : ℕ) (v : ℤ) → x < length boxes → ((y : ℕ) → y < length boxes → is_nil (box_of boxes y) ≡ false) → (y : ℕ) → y < length boxes → is_nil (box_of (fixing boxes x v) y) ≡ false
fixed_some boxes x v n h y m =
    elim (cases_eq y x) [
      | inl e ↦ subst (λ (z : ℕ). is_nil (box_of (fixing boxes x v) z) ≡ false) (sym e) (subst (λ (s : Ranges). is_nil s ≡ false) (sym (fixing_same boxes x v n)) refl)
      | inr e ↦ subst (λ (s : Ranges). is_nil s ≡ false) (sym (fixing_other boxes x y v e)) (h y m)
    ]

pub fixed_not_empty : (xs : List ℕ) (boxes : Boxes) (x : ℕ) (v : ℤ) → x < length boxes → ((y : ℕ) → y < length boxes → is_nil (box_of boxes y) ≡ false) → All (λ y. y < length boxes) xs → some_empty xs (fixing boxes x v) ≡ false
fixed_not_empty [] boxes x v n h m = refl
fixed_not_empty (y ∷ ys) boxes x v n h m =
    let here = fixed_some boxes x v n h y (m 0 y (omega arith)) in let more = fixed_not_empty ys boxes x v n h (λ k d lt. m (suc k) d (omega arith)) in grind arith
