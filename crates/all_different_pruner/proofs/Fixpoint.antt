-- Variables at a fixpoint are quiet. A value that refutes them would stand in a full interval, or
-- there would be a crowded one; and such an interval begins where some box within it begins.
use Rattle.std.proofs.Common.{◌≡◌, ℕ, suc, ◌<◌, ◌≤◌, Bool, true, false, not, ◌||◌, cond, List, [], ◌∷◌, ℤ, ◌≤ℤ◌, All, length, refl, arith, inl, inr, subst, sym}
use Rattle.std.specs.Prelude.{◌==◌}
use Rattle.std.proofs.lemmas.Int.{ints}
use Rattle.std.proofs.lemmas.Bool.Decides.{nat_tests}
use Rattle.std.proofs.lemmas.Bool.{or_cases, and_parts, cases_lt}
use Rattle.signed_clause.specs.Clauses.{Boxes, box_of}
use Rattle.ground_form.specs.Bounds.{low_of}
use Rattle.box_view.specs.Views.{fixing}
use Rattle.box_rules.specs.Refuted.{lies_in, count_in}
use Rattle.box_view.proofs.SetLaws.{fixing_other}
use Rattle.box_rules.proofs.CrowdLaws.{order_cases, at_least, Starts, none_starts, starts_on}
use Rattle.rule_law.specs.Reasons.{has_number, no_repeat}

-- ---- members of a list

right_or : (x y : Bool) → y ≡ true → (x || y) ≡ true
right_or x y h = grind arith

left_or : (x y : Bool) → x ≡ true → (x || y) ≡ true
left_or x y h = rw h refl

same_stands : (x : ℕ) → (x == x) ≡ true
same_stands x = grind (arith, nat_tests)

pub stands_at : (x : ℕ) (xs : List ℕ) → has_number x (x ∷ xs) ≡ true
stands_at x xs = left_or _ _ (same_stands x)

pub all_at : (P : ℕ → Type 0) (x : ℕ) (xs : List ℕ) → All P xs → has_number x xs ≡ true → P x
all_at P x [] h k = absurd (grind arith)
all_at P x (y ∷ ys) h k =
    elim (or_cases (y == x) (has_number x ys) k) [
      | inl e ↦ let same : y ≡ x = grind (arith, nat_tests) in subst P same (h 0 y (omega arith))
      | inr e ↦ all_at P x ys (λ j d lt. h (suc j) d (omega arith)) e
    ]

-- ---- where a full interval begins

pub record StartIn (a b : ℤ) (xs : List ℕ) (boxes : Boxes) : Type 0 where
  pub variable : ℕ
  pub there : has_number variable xs ≡ true
  pub lies : lies_in a b (box_of boxes variable) ≡ true
  pub keeps : Starts (low_of (box_of boxes variable)) a b xs boxes

start_here : (a b : ℤ) (x : ℕ) (xs : List ℕ) (boxes : Boxes) → lies_in a b (box_of boxes x) ≡ true → Starts (low_of (box_of boxes x)) a b xs boxes → StartIn a b (x ∷ xs) boxes
start_here a b x xs boxes h k =
    record { variable = x; there = left_or _ _ (same_stands x); lies = h; keeps = ((λ e. omega (arith, ints)), k) }

start_later : (a b : ℤ) (x : ℕ) (xs : List ℕ) (boxes : Boxes) (t : StartIn a b xs boxes) → (lies_in a b (box_of boxes x) ≡ true → low_of (box_of boxes t.variable) ≤ℤ low_of (box_of boxes x)) → StartIn a b (x ∷ xs) boxes
start_later a b x xs boxes t h =
    record { variable = t.variable; there = right_or _ _ t.there; lies = t.lies; keeps = (h, t.keeps) }

pub find_start : (a b : ℤ) (xs : List ℕ) (boxes : Boxes) → 1 ≤ count_in a b xs boxes → StartIn a b xs boxes
find_start a b [] boxes h = absurd (omega arith)
find_start a b (x ∷ xs) boxes h =
    let box = box_of boxes x in
    let P : Bool → Type 0 = λ t. lies_in a b box ≡ t → 1 ≤ cond t (suc (count_in a b xs boxes)) (count_in a b xs boxes) → StartIn a b (x ∷ xs) boxes in
    (elim (lies_in a b box) as P [
      | true ↦ λ e k. elim (cases_lt 0 (count_in a b xs boxes)) [
        | inl more ↦ let t = find_start a b xs boxes (omega arith) in elim (order_cases (low_of box) (low_of (box_of boxes t.variable))) [
          | inl here ↦ start_here a b x xs boxes e (starts_on (low_of box) (low_of (box_of boxes t.variable)) a b xs boxes here t.keeps)
          | inr there ↦ start_later a b x xs boxes t (λ q. there)
        ]
        | inr none ↦ start_here a b x xs boxes e (none_starts (low_of box) a b xs boxes none)
      ]
      | false ↦ λ e k. start_later a b x xs boxes (find_start a b xs boxes k) (λ q. absurd cc)
    ]) refl h

-- ---- counts

pub count_at_most : (a b : ℤ) (xs : List ℕ) (boxes : Boxes) → count_in a b xs boxes ≤ length xs
count_at_most a b [] boxes = omega arith
count_at_most a b (x ∷ xs) boxes = let more = count_at_most a b xs boxes in grind arith

-- where some box doesn't lie within, not all do
pub count_below : (a b : ℤ) (x : ℕ) (xs : List ℕ) (boxes : Boxes) → has_number x xs ≡ true → lies_in a b (box_of boxes x) ≡ false → count_in a b xs boxes < length xs
count_below a b x [] boxes h k = absurd (grind arith)
count_below a b x (y ∷ ys) boxes h k =
    elim (or_cases (y == x) (has_number x ys) h) [
      | inl e ↦ let same : y ≡ x = grind (arith, nat_tests) in
          let out : lies_in a b (box_of boxes y) ≡ false = subst (λ (z : ℕ). lies_in a b (box_of boxes z) ≡ false) (sym same) k in
          let most = count_at_most a b ys boxes in rw out (omega arith)
      | inr e ↦ let more = count_below a b x ys boxes e k in grind arith
    ]

-- where the box of one of them lies within, one does
pub lies_once : (a b : ℤ) (x : ℕ) (xs : List ℕ) (boxes : Boxes) → has_number x xs ≡ true → lies_in a b (box_of boxes x) ≡ true → 1 ≤ count_in a b xs boxes
lies_once a b x [] boxes h k = absurd (grind arith)
lies_once a b x (y ∷ ys) boxes h k =
    elim (or_cases (y == x) (has_number x ys) h) [
      | inl e ↦ let same : y ≡ x = grind (arith, nat_tests) in
          let here : lies_in a b (box_of boxes y) ≡ true = subst (λ (z : ℕ). lies_in a b (box_of boxes z) ≡ true) (sym same) k in rw here (omega arith)
      | inr e ↦ let more = lies_once a b x ys boxes e k in grind arith
    ]

-- where each box of the first boxes that lies within is one of the second
pub count_more : (a b : ℤ) (xs : List ℕ) (one two : Boxes) → ((x : ℕ) → lies_in a b (box_of one x) ≡ true → lies_in a b (box_of two x) ≡ true) → count_in a b xs one ≤ count_in a b xs two
count_more a b [] one two h = omega arith
count_more a b (x ∷ xs) one two h =
    at_least (lies_in a b (box_of one x)) (lies_in a b (box_of two x)) _ _ (h x) (count_more a b xs one two h)

fixed_elsewhere : (a b v : ℤ) (x : ℕ) (xs : List ℕ) (boxes : Boxes) → has_number x xs ≡ false → count_in a b xs (fixing boxes x v) ≡ count_in a b xs boxes
fixed_elsewhere a b v x [] boxes h = refl
fixed_elsewhere a b v x (y ∷ ys) boxes h =
    let other : y ≡ x → ⊥ = λ e. (let t : (y == x) ≡ true = grind (arith, nat_tests) in grind arith) in
    let rest : has_number x ys ≡ false = grind arith in
    let same = fixing_other boxes x y v other in
    let more = fixed_elsewhere a b v x ys boxes rest in
    rw (same, more) refl

count_step : (f g : Bool) (m n : ℕ) → m ≤ n → cond f (suc m) m ≤ suc (cond g (suc n) n)
count_step true true m n h = omega arith
count_step true false m n h = omega arith
count_step false true m n h = omega arith
count_step false false m n h = omega arith

same_step : (g : Bool) (m n : ℕ) → m ≤ suc n → cond g (suc m) m ≤ suc (cond g (suc n) n)
same_step true m n h = omega arith
same_step false m n h = omega arith

-- one value in place of one box puts at most one box more within
pub fixed_once : (a b v : ℤ) (x : ℕ) (xs : List ℕ) (boxes : Boxes) → no_repeat xs ≡ true → count_in a b xs (fixing boxes x v) ≤ suc (count_in a b xs boxes)
fixed_once a b v x [] boxes h = omega arith
fixed_once a b v x (y ∷ ys) boxes h =
    let parts = and_parts (not (has_number y ys)) (no_repeat ys) h in
    let P : Bool → Type 0 = λ t. (y == x) ≡ t → count_in a b (y ∷ ys) (fixing boxes x v) ≤ suc (count_in a b (y ∷ ys) boxes) in
    (elim (y == x) as P [
      | true ↦ λ e. let same : y ≡ x = grind (arith, nat_tests) in
          let gone : has_number y ys ≡ false = grind arith in
          let none : has_number x ys ≡ false = subst (λ (z : ℕ). has_number z ys ≡ false) same gone in
          let rest = fixed_elsewhere a b v x ys boxes none in
          count_step (lies_in a b (box_of (fixing boxes x v) y)) (lies_in a b (box_of boxes y)) (count_in a b ys (fixing boxes x v)) (count_in a b ys boxes) (omega arith)
      | false ↦ λ e. let other : y ≡ x → ⊥ = λ q. (let t : (y == x) ≡ true = grind (arith, nat_tests) in grind arith) in
          let same = fixing_other boxes x y v other in
          let more = fixed_once a b v x ys boxes parts.1 in
          rw same (same_step (lies_in a b (box_of boxes y)) _ _ more)
    ]) refl
