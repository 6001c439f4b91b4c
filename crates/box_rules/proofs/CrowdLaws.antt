-- It is enough to look at intervals from where some box begins to where some box ends: any crowded
-- interval can be narrowed to such a one, since that keeps the boxes within it.
use Rattle.std.proofs.Common.{◌≡◌, ◌↔◌, ℕ, suc, ◌≤◌, Bool, true, false, ◌&&◌, ◌||◌, cond, List, [], ◌∷◌, ℤ, pos, ◌+ℤ◌, ◌-ℤ◌, ◌≤ℤ◌, ◌<ℤ◌, All, refl, arith, inl, inr, ◌⊎◌, subst, sym}
use Rattle.std.specs.Prelude.{int_lt, int_le}
use Rattle.std.specs.Ordering.{int_eq}
use Rattle.std.proofs.lemmas.Int.{ints}
use Rattle.std.proofs.lemmas.Bool.Decides.{Decides-int_eq}
use Rattle.std.proofs.lemmas.Bool.{or_cases, and_parts, and_from, cases_lt}
use Rattle.signed_clause.specs.Ranges.{Ranges, IsValid}
use Rattle.signed_clause.specs.Clauses.{Boxes, box_of}
use Rattle.ground_form.specs.Bounds.{low_of, high_of}
use Rattle.box_rules.specs.Refuted.{lies_in, count_in, crowded, crowded_from, some_crowded}
use Rattle.box_rules.specs.Points.{IsCrowdedSomewhere}
use Rattle.box_rules.specs.Crowding.{AreInOrder}
use Rattle.box_view.proofs.EndLaws.{AreSets, are_sets, ends_in_order}

right_or : (x y : Bool) → y ≡ true → (x || y) ≡ true
right_or x y h = grind arith

left_or : (x y : Bool) → x ≡ true → (x || y) ≡ true
left_or x y h = rw h refl

int_eq-same : (v : ℤ) → int_eq v v ≡ true
int_eq-same v = (Decides-int_eq v v).1 refl

pub order_cases : (v w : ℤ) → (v ≤ℤ w) ⊎ (w ≤ℤ v)
order_cases v w = (elim (int_le v w) as (λ t. int_le v w ≡ t → (v ≤ℤ w) ⊎ (w ≤ℤ v)) [ true ↦ λ e. inl (grind (arith, ints)) | false ↦ λ e. inr (grind (arith, ints)) ]) refl

pub in_parts : (a b : ℤ) (s : Ranges) → lies_in a b s ≡ true → (a ≤ℤ low_of s) × (high_of s ≤ℤ b)
in_parts a b s h =
    let parts = and_parts (int_le a (low_of s)) (int_le (high_of s) b) h in (grind (arith, ints), grind (arith, ints))

pub in_from : (a b : ℤ) (s : Ranges) → a ≤ℤ low_of s → high_of s ≤ℤ b → lies_in a b s ≡ true
in_from a b s h k = and_from (int_le a (low_of s)) (int_le (high_of s) b) (grind (arith, ints)) (grind (arith, ints))

pub at_least : (f g : Bool) (m n : ℕ) → (f ≡ true → g ≡ true) → m ≤ n → cond f (suc m) m ≤ cond g (suc n) n
at_least true true m n h k = omega arith
at_least true false m n h k = absurd (let e = h refl in cc)
at_least false true m n h k = omega arith
at_least false false m n h k = k

-- ---- starts

-- boxes within a..b begin at v or later
abbrev pub Starts : ℤ → ℤ → ℤ → List ℕ → Boxes → Type 0
Starts v a b [] boxes = Unit {0}
Starts v a b (x ∷ xs) boxes = (lies_in a b (box_of boxes x) ≡ true → v ≤ℤ low_of (box_of boxes x)) × Starts v a b xs boxes

-- some box begins at v
abbrev is_start : ℤ → List ℕ → Boxes → Bool
is_start v [] boxes = false
is_start v (x ∷ xs) boxes = int_eq (low_of (box_of boxes x)) v || is_start v xs boxes

pub none_starts : (v a b : ℤ) (xs : List ℕ) (boxes : Boxes) → count_in a b xs boxes ≤ 0 → Starts v a b xs boxes
none_starts v a b [] boxes h = tt
none_starts v a b (x ∷ xs) boxes h =
    (elim (lies_in a b (box_of boxes x)) as (λ t. cond t (suc (count_in a b xs boxes)) (count_in a b xs boxes) ≤ 0 → (t ≡ true → v ≤ℤ low_of (box_of boxes x)) × Starts v a b xs boxes) [
      | true ↦ λ k. absurd (omega arith)
      | false ↦ λ k. ((λ e. absurd cc), none_starts v a b xs boxes k)
    ]) h

pub starts_on : (w v a b : ℤ) (xs : List ℕ) (boxes : Boxes) → w ≤ℤ v → Starts v a b xs boxes → Starts w a b xs boxes
starts_on w v a b [] boxes h s = tt
starts_on w v a b (x ∷ xs) boxes h s = ((λ e. let k = s.0 e in omega (arith, ints)), starts_on w v a b xs boxes h s.1)

record Start (a b : ℤ) (xs : List ℕ) (boxes : Boxes) : Type 0 where
  value : ℤ
  from : a ≤ℤ value
  upto : value ≤ℤ b
  there : is_start value xs boxes ≡ true
  keeps : Starts value a b xs boxes

-- the first box is the one, or another is
start_here : (a b : ℤ) (x : ℕ) (xs : List ℕ) (boxes : Boxes) → AreSets boxes → lies_in a b (box_of boxes x) ≡ true → Starts (low_of (box_of boxes x)) a b xs boxes → Start a b (x ∷ xs) boxes
start_here a b x xs boxes s h k =
    let parts = in_parts a b (box_of boxes x) h in let order = ends_in_order (box_of boxes x) (s x) in
    let low = parts.0 in let high = parts.1 in
    record {
      value = low_of (box_of boxes x);
      from = omega (arith, ints);
      upto = omega (arith, ints);
      there = left_or _ _ (int_eq-same (low_of (box_of boxes x)));
      keeps = ((λ e. omega (arith, ints)), k);
    }

start_later : (a b : ℤ) (x : ℕ) (xs : List ℕ) (boxes : Boxes) (t : Start a b xs boxes) → (lies_in a b (box_of boxes x) ≡ true → t.value ≤ℤ low_of (box_of boxes x)) → Start a b (x ∷ xs) boxes
start_later a b x xs boxes t h =
    record { value = t.value; from = t.from; upto = t.upto; there = right_or _ _ t.there; keeps = (h, t.keeps) }

find_start : (a b : ℤ) (xs : List ℕ) (boxes : Boxes) → AreSets boxes → 1 ≤ count_in a b xs boxes → Start a b xs boxes
find_start a b [] boxes s h = absurd (omega arith)
find_start a b (x ∷ xs) boxes s h =
    let box = box_of boxes x in
    let P : Bool → Type 0 = λ t. lies_in a b box ≡ t → 1 ≤ cond t (suc (count_in a b xs boxes)) (count_in a b xs boxes) → Start a b (x ∷ xs) boxes in
    (elim (lies_in a b box) as P [
      | true ↦ λ e k. elim (cases_lt 0 (count_in a b xs boxes)) [
        | inl more ↦ let t = find_start a b xs boxes s (omega arith) in elim (order_cases (low_of box) t.value) [
          | inl here ↦ start_here a b x xs boxes s e (starts_on (low_of box) t.value a b xs boxes here t.keeps)
          | inr there ↦ start_later a b x xs boxes t (λ q. there)
        ]
        | inr none ↦ start_here a b x xs boxes s e (none_starts (low_of box) a b xs boxes none)
      ]
      | false ↦ λ e k. start_later a b x xs boxes (find_start a b xs boxes s k) (λ q. absurd cc)
    ]) refl h

-- so as many boxes lie within
pub start_keeps : (v a b : ℤ) (xs : List ℕ) (boxes : Boxes) → Starts v a b xs boxes → count_in a b xs boxes ≤ count_in v b xs boxes
start_keeps v a b [] boxes s = omega arith
start_keeps v a b (x ∷ xs) boxes s =
    let more = start_keeps v a b xs boxes s.1 in
    let still : lies_in a b (box_of boxes x) ≡ true → lies_in v b (box_of boxes x) ≡ true = λ e. let parts = in_parts a b (box_of boxes x) e in let k = s.0 e in in_from v b (box_of boxes x) k parts.1 in
    at_least (lies_in a b (box_of boxes x)) (lies_in v b (box_of boxes x)) _ _ still more

-- ---- ends

-- boxes within a..b end at v or before
abbrev pub Ends : ℤ → ℤ → ℤ → List ℕ → Boxes → Type 0
Ends v a b [] boxes = Unit {0}
Ends v a b (x ∷ xs) boxes = (lies_in a b (box_of boxes x) ≡ true → high_of (box_of boxes x) ≤ℤ v) × Ends v a b xs boxes

-- some box ends at v
abbrev pub is_end : ℤ → List ℕ → Boxes → Bool
is_end v [] boxes = false
is_end v (x ∷ xs) boxes = int_eq (high_of (box_of boxes x)) v || is_end v xs boxes

none_ends : (v a b : ℤ) (xs : List ℕ) (boxes : Boxes) → count_in a b xs boxes ≤ 0 → Ends v a b xs boxes
none_ends v a b [] boxes h = tt
none_ends v a b (x ∷ xs) boxes h =
    (elim (lies_in a b (box_of boxes x)) as (λ t. cond t (suc (count_in a b xs boxes)) (count_in a b xs boxes) ≤ 0 → (t ≡ true → high_of (box_of boxes x) ≤ℤ v) × Ends v a b xs boxes) [
      | true ↦ λ k. absurd (omega arith)
      | false ↦ λ k. ((λ e. absurd cc), none_ends v a b xs boxes k)
    ]) h

ends_on : (w v a b : ℤ) (xs : List ℕ) (boxes : Boxes) → v ≤ℤ w → Ends v a b xs boxes → Ends w a b xs boxes
ends_on w v a b [] boxes h s = tt
ends_on w v a b (x ∷ xs) boxes h s = ((λ e. let k = s.0 e in omega (arith, ints)), ends_on w v a b xs boxes h s.1)

pub record End (a b : ℤ) (xs : List ℕ) (boxes : Boxes) : Type 0 where
  pub value : ℤ
  pub from : a ≤ℤ value
  pub upto : value ≤ℤ b
  pub there : is_end value xs boxes ≡ true
  pub keeps : Ends value a b xs boxes

-- the first box is the one, or another is
end_here : (a b : ℤ) (x : ℕ) (xs : List ℕ) (boxes : Boxes) → low_of (box_of boxes x) ≤ℤ high_of (box_of boxes x) → lies_in a b (box_of boxes x) ≡ true → Ends (high_of (box_of boxes x)) a b xs boxes → End a b (x ∷ xs) boxes
end_here a b x xs boxes order h k =
    let parts = in_parts a b (box_of boxes x) h in
    let low = parts.0 in let high = parts.1 in
    record {
      value = high_of (box_of boxes x);
      from = omega (arith, ints);
      upto = omega (arith, ints);
      there = left_or _ _ (int_eq-same (high_of (box_of boxes x)));
      keeps = ((λ e. omega (arith, ints)), k);
    }

end_later : (a b : ℤ) (x : ℕ) (xs : List ℕ) (boxes : Boxes) (t : End a b xs boxes) → (lies_in a b (box_of boxes x) ≡ true → high_of (box_of boxes x) ≤ℤ t.value) → End a b (x ∷ xs) boxes
end_later a b x xs boxes t h =
    record { value = t.value; from = t.from; upto = t.upto; there = right_or _ _ t.there; keeps = (h, t.keeps) }

pub find_end : (a b : ℤ) (xs : List ℕ) (boxes : Boxes) → AreInOrder xs boxes → 1 ≤ count_in a b xs boxes → End a b xs boxes
find_end a b [] boxes s h = absurd (omega arith)
find_end a b (x ∷ xs) boxes s h =
    let box = box_of boxes x in
    let P : Bool → Type 0 = λ t. lies_in a b box ≡ t → 1 ≤ cond t (suc (count_in a b xs boxes)) (count_in a b xs boxes) → End a b (x ∷ xs) boxes in
    (elim (lies_in a b box) as P [
      | true ↦ λ e k. elim (cases_lt 0 (count_in a b xs boxes)) [
        | inl more ↦ let t = find_end a b xs boxes s.1 (omega arith) in elim (order_cases t.value (high_of box)) [
          | inl here ↦ end_here a b x xs boxes s.0 e (ends_on (high_of box) t.value a b xs boxes here t.keeps)
          | inr there ↦ end_later a b x xs boxes t (λ q. there)
        ]
        | inr none ↦ end_here a b x xs boxes s.0 e (none_ends (high_of box) a b xs boxes none)
      ]
      | false ↦ λ e k. end_later a b x xs boxes (find_end a b xs boxes s.1 k) (λ q. absurd cc)
    ]) refl h

-- so as many boxes lie within
pub end_keeps : (v a b : ℤ) (xs : List ℕ) (boxes : Boxes) → Ends v a b xs boxes → count_in a b xs boxes ≤ count_in a v xs boxes
end_keeps v a b [] boxes s = omega arith
end_keeps v a b (x ∷ xs) boxes s =
    let more = end_keeps v a b xs boxes s.1 in
    let still : lies_in a b (box_of boxes x) ≡ true → lies_in a v (box_of boxes x) ≡ true = λ e. let parts = in_parts a b (box_of boxes x) e in let k = s.0 e in in_from a v (box_of boxes x) parts.0 k in
    at_least (lies_in a b (box_of boxes x)) (lies_in a v (box_of boxes x)) _ _ still more

-- ---- the law

in_order : (xs : List ℕ) (boxes : Boxes) → AreSets boxes → AreInOrder xs boxes
in_order [] boxes s = tt
in_order (x ∷ xs) boxes s = (ends_in_order (box_of boxes x) (s x), in_order xs boxes s)

pub from_end : (a v : ℤ) (ys xs : List ℕ) (boxes : Boxes) → is_end v ys boxes ≡ true → crowded a v xs boxes ≡ true → crowded_from a ys xs boxes ≡ true
from_end a v [] xs boxes h c = absurd cc
from_end a v (y ∷ ys) xs boxes h c =
    elim (or_cases (int_eq (high_of (box_of boxes y)) v) (is_end v ys boxes) h) [
      | inl e ↦ left_or _ _ (subst (λ (z : ℤ). crowded a z xs boxes ≡ true) (sym ((Decides-int_eq (high_of (box_of boxes y)) v).0 e)) c)
      | inr e ↦ right_or _ _ (from_end a v ys xs boxes e c)
    ]

from_start : (v : ℤ) (ys xs : List ℕ) (boxes : Boxes) → is_start v ys boxes ≡ true → crowded_from v xs xs boxes ≡ true → some_crowded ys xs boxes ≡ true
from_start v [] xs boxes h c = absurd cc
from_start v (y ∷ ys) xs boxes h c =
    elim (or_cases (int_eq (low_of (box_of boxes y)) v) (is_start v ys boxes) h) [
      | inl e ↦ left_or _ _ (subst (λ (z : ℤ). crowded_from z xs xs boxes ≡ true) (sym ((Decides-int_eq (low_of (box_of boxes y)) v).0 e)) c)
      | inr e ↦ right_or _ _ (from_start v ys xs boxes e c)
    ]

pub narrowed : (a b v w : ℤ) (m n k : ℕ) → a ≤ℤ v → v ≤ℤ w → w ≤ℤ b → m ≤ n → n ≤ k → (int_le a b && int_lt ((b -ℤ a) +ℤ pos 1) (pos m)) ≡ true → (int_le v w && int_lt ((w -ℤ v) +ℤ pos 1) (pos k)) ≡ true
narrowed a b v w m n k h i j l o c =
    let parts = and_parts (int_le a b) (int_lt ((b -ℤ a) +ℤ pos 1) (pos m)) c in
    let less : ((b -ℤ a) +ℤ pos 1) <ℤ pos m = grind (arith, ints) in
    and_from (int_le v w) (int_lt ((w -ℤ v) +ℤ pos 1) (pos k)) (grind (arith, ints)) (let q : ((w -ℤ v) +ℤ pos 1) <ℤ pos k = omega (arith, ints) in grind (arith, ints))

pub some_within : (a b : ℤ) (m : ℕ) → (int_le a b && int_lt ((b -ℤ a) +ℤ pos 1) (pos m)) ≡ true → 1 ≤ m
some_within a b m c =
    let parts = and_parts (int_le a b) (int_lt ((b -ℤ a) +ℤ pos 1) (pos m)) c in
    let order : a ≤ℤ b = grind (arith, ints) in
    let less : ((b -ℤ a) +ℤ pos 1) <ℤ pos m = grind (arith, ints) in omega (arith, ints)

pub crowded_anywhere : (a b : ℤ) (xs : List ℕ) (boxes : Boxes) → AreSets boxes → crowded a b xs boxes ≡ true → some_crowded xs xs boxes ≡ true
crowded_anywhere a b xs boxes s c =
    let start = find_start a b xs boxes s (some_within a b (count_in a b xs boxes) c) in
    let v = start.value in
    let many = start_keeps v a b xs boxes start.keeps in
    let some = some_within a b (count_in a b xs boxes) c in
    let end = find_end v b xs boxes (in_order xs boxes s) (omega arith) in
    let more = end_keeps end.value v b xs boxes end.keeps in
    let narrow : crowded v end.value xs boxes ≡ true = narrowed a b v end.value _ _ _ start.from end.from end.upto many more c in
    from_start v xs xs boxes start.there (from_end v end.value xs xs boxes end.there narrow)

somewhere_from : (a : ℤ) (ys xs : List ℕ) (boxes : Boxes) → crowded_from a ys xs boxes ≡ true → IsCrowdedSomewhere xs boxes
somewhere_from a [] xs boxes h = absurd cc
somewhere_from a (y ∷ ys) xs boxes h =
    elim (or_cases (crowded a (high_of (box_of boxes y)) xs boxes) (crowded_from a ys xs boxes) h) [
      | inl e ↦ (a, high_of (box_of boxes y), e)
      | inr e ↦ somewhere_from a ys xs boxes e
    ]

pub somewhere : (ys xs : List ℕ) (boxes : Boxes) → some_crowded ys xs boxes ≡ true → IsCrowdedSomewhere xs boxes
somewhere [] xs boxes h = absurd cc
somewhere (y ∷ ys) xs boxes h =
    elim (or_cases (crowded_from (low_of (box_of boxes y)) xs xs boxes) (some_crowded ys xs boxes) h) [
      | inl e ↦ somewhere_from (low_of (box_of boxes y)) xs xs boxes e
      | inr e ↦ somewhere ys xs boxes e
    ]

pub crowded_law : (xs : List ℕ) (boxes : Boxes) → All (λ s. IsValid s) boxes → (some_crowded xs xs boxes ≡ true) ↔ IsCrowdedSomewhere xs boxes
crowded_law xs boxes s = (somewhere xs xs boxes, (λ h. crowded_anywhere h.0 h.1 xs boxes (are_sets boxes s) h.2))
