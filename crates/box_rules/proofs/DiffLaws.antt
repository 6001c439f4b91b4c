-- The rule of values that differ is right: more variables than values can't differ.
use Rattle.std.proofs.Common.{◌≡◌, ℕ, zero, suc, ◌+◌, ◌<◌, ◌≤◌, Bool, true, false, not, ◌&&◌, ◌||◌, cond, List, [], ◌∷◌, ℤ, pos, ◌+ℤ◌, ◌-ℤ◌, ◌≤ℤ◌, unsigned_abs, refl, arith, inl, inr, subst, ap, ◌∙◌, sym}
use Rattle.std.specs.Prelude.{int_lt, int_le}
use Rattle.std.specs.Ordering.{int_eq}
use Rattle.std.proofs.lemmas.Int.{ints}
use Rattle.std.proofs.lemmas.Bool.Decides.{Decides-int_eq}
use Rattle.std.proofs.lemmas.Bool.{or_cases, and_parts, and_cases, false_from_ne_true}
use Rattle.signed_clause.specs.Ranges.{Ranges, has, IsValid}
use Rattle.signed_clause.specs.Clauses.{Boxes, box_of}
use Rattle.ground_form.specs.Meaning.{value_of, lacks, all_differ}
use Rattle.ground_form.specs.Bounds.{low_of, high_of}
use Rattle.box_rules.specs.Refuted.{lies_in, count_in, crowded, crowded_from, some_crowded}
use Rattle.box_view.proofs.EndLaws.{AreSets, AreSingle, values_in, above_low, below_high, single_head, single_tail}

-- ---- values that differ, of which some lie in v..v+n-1, are at most n

-- how many values of the variables lie in the n numbers from v on
abbrev values_among : ℤ → ℕ → List ℕ → List ℤ → ℕ
values_among v n [] a = 0
values_among v n (x ∷ xs) a =
    cond (int_le v (value_of a x) && int_lt (value_of a x) (v +ℤ pos n)) (suc (values_among v n xs a)) (values_among v n xs a)

-- values that lack v: none of them is in v..v
lacks-none : (v : ℤ) (xs : List ℕ) (a : List ℤ) → lacks v xs a ≡ true → values_among v 1 xs a ≡ 0
lacks-none v [] a h = refl
lacks-none v (x ∷ xs) a h =
    let parts = and_parts (not (int_eq (value_of a x) v)) (lacks v xs a) h in
    let more = lacks-none v xs a parts.1 in
    let at = Decides-int_eq (value_of a x) v in
    let apart : int_eq (value_of a x) v ≡ false = grind arith in
    let out : (int_le v (value_of a x) && int_lt (value_of a x) (v +ℤ pos 1)) ≡ false = grind (arith, ints) in
    rw out more

-- of values that differ at most one is v
one_value : (v : ℤ) (xs : List ℕ) (a : List ℤ) → all_differ xs a ≡ true → values_among v 1 xs a ≤ 1
one_value v [] a h = omega arith
one_value v (x ∷ xs) a h =
    let parts = and_parts (lacks (value_of a x) xs a) (all_differ xs a) h in
    let more = one_value v xs a parts.1 in
    let P : Bool → Type 0 = λ b. int_eq (value_of a x) v ≡ b → cond (int_le v (value_of a x) && int_lt (value_of a x) (v +ℤ pos 1)) (suc (values_among v 1 xs a)) (values_among v 1 xs a) ≤ 1 in
    (elim (int_eq (value_of a x) v) as P [
      | true ↦ λ q. let e = (Decides-int_eq (value_of a x) v).0 q in
          let none = lacks-none v xs a (subst (λ (z : ℤ). lacks z xs a ≡ true) e parts.0) in grind arith
      | false ↦ λ q. let at = Decides-int_eq (value_of a x) v in
          let out : (int_le v (value_of a x) && int_lt (value_of a x) (v +ℤ pos 1)) ≡ false = grind (arith, ints) in rw out more
    ]) refl

-- those of n + 1 numbers are those of the first and those of the others
split_first : (v : ℤ) (n : ℕ) (xs : List ℕ) (a : List ℤ) → values_among v (suc n) xs a ≡ values_among v 1 xs a + values_among (v +ℤ pos 1) n xs a
split_first v n [] a = refl
split_first v n (x ∷ xs) a =
    let more = split_first v n xs a in
    let w = value_of a x in
    let one = int_le v w && int_lt w (v +ℤ pos 1) in
    let rest = int_le (v +ℤ pos 1) w && int_lt w ((v +ℤ pos 1) +ℤ pos n) in
    let all = int_le v w && int_lt w (v +ℤ pos (suc n)) in
    let is : all ≡ (one || rest) = grind (arith, ints) in
    let not_both : (one && rest) ≡ false = grind (arith, ints) in
    grind arith

none_among : (v : ℤ) (xs : List ℕ) (a : List ℤ) → values_among v 0 xs a ≡ 0
none_among v [] a = refl
none_among v (x ∷ xs) a =
    let more = none_among v xs a in
    let out : (int_le v (value_of a x) && int_lt (value_of a x) (v +ℤ pos 0)) ≡ false = grind (arith, ints) in
    rw out more

few_values : (n : ℕ) (v : ℤ) (xs : List ℕ) (a : List ℤ) → all_differ xs a ≡ true → values_among v n xs a ≤ n
few_values zero v xs a h = let e = none_among v xs a in omega arith
few_values (suc n) v xs a h =
    let first = one_value v xs a h in let more = few_values n (v +ℤ pos 1) xs a h in let e = split_first v n xs a in omega arith

-- ---- the rule

-- a box within v..v+n-1 has its value there
box_value : (v b : ℤ) (n : ℕ) (box : Ranges) (w : ℤ) → b +ℤ pos 1 ≡ v +ℤ pos n → IsValid box → has box w ≡ true → lies_in v b box ≡ true →
    (int_le v w && int_lt w (v +ℤ pos n)) ≡ true
box_value v b n box w e s h k =
    let low = above_low box w s h in let high = below_high box w s h in
    let parts = and_parts (int_le v (low_of box)) (int_le (high_of box) b) k in
    grind (arith, ints)

counted : (v b : ℤ) (n : ℕ) (xs : List ℕ) (boxes : Boxes) (a : List ℤ) → b +ℤ pos 1 ≡ v +ℤ pos n → AreSets boxes → values_in xs boxes a ≡ true → count_in v b xs boxes ≤ values_among v n xs a
counted v b n [] boxes a e s h = omega arith
counted v b n (x ∷ xs) boxes a e s h =
    let parts = and_parts (has (box_of boxes x) (value_of a x)) (values_in xs boxes a) h in
    let more = counted v b n xs boxes a e s parts.1 in
    let here = box_value v b n (box_of boxes x) (value_of a x) e (s x) parts.0 in
    grind arith

-- the number of numbers in v..b
size_at : (v b : ℤ) → v ≤ℤ b → (n : ℕ) × (b +ℤ pos 1 ≡ v +ℤ pos n)
size_at v b h = (suc (unsigned_abs (b -ℤ v)), omega (arith, ints))

pub crowded-false : (v b : ℤ) (xs : List ℕ) (boxes : Boxes) (a : List ℤ) → AreSets boxes → values_in xs boxes a ≡ true → crowded v b xs boxes ≡ true → all_differ xs a ≡ false
crowded-false v b xs boxes a s h k =
    let parts = and_parts (int_le v b) (int_lt ((b -ℤ v) +ℤ pos 1) (pos (count_in v b xs boxes))) k in
    let order : v ≤ℤ b = grind (arith, ints) in
    let size = size_at v b order in
    let many = counted v b size.0 xs boxes a size.1 s h in
    let few = few_values size.0 v xs a in
    let more : size.0 < count_in v b xs boxes = grind (arith, ints) in
    false_from_ne_true (all_differ xs a) (λ q. let f = few q in omega arith)

crowded_from-false : (v : ℤ) (ys xs : List ℕ) (boxes : Boxes) (a : List ℤ) → AreSets boxes → values_in xs boxes a ≡ true → crowded_from v ys xs boxes ≡ true → all_differ xs a ≡ false
crowded_from-false v [] xs boxes a s h k = absurd cc
crowded_from-false v (y ∷ ys) xs boxes a s h k =
    elim (or_cases (crowded v (high_of (box_of boxes y)) xs boxes) (crowded_from v ys xs boxes) k) [
      | inl e ↦ crowded-false v (high_of (box_of boxes y)) xs boxes a s h e
      | inr e ↦ crowded_from-false v ys xs boxes a s h e
    ]

pub some_crowded-false : (ys xs : List ℕ) (boxes : Boxes) (a : List ℤ) → AreSets boxes → values_in xs boxes a ≡ true → some_crowded ys xs boxes ≡ true → all_differ xs a ≡ false
some_crowded-false [] xs boxes a s h k = absurd cc
some_crowded-false (y ∷ ys) xs boxes a s h k =
    elim (or_cases (crowded_from (low_of (box_of boxes y)) xs xs boxes) (some_crowded ys xs boxes) k) [
      | inl e ↦ crowded_from-false (low_of (box_of boxes y)) xs xs boxes a s h e
      | inr e ↦ some_crowded-false ys xs boxes a s h e
    ]

-- ---- single values

-- one variable that has the value v
one_var : (v : ℤ) (xs : List ℕ) (boxes : Boxes) (a : List ℤ) → AreSingle xs boxes a → lacks v xs a ≡ false → 1 ≤ count_in v v xs boxes
one_var v [] boxes a h k = absurd cc
one_var v (x ∷ xs) boxes a h k =
    let is = single_head x xs boxes a h in
    let w = value_of a x in
    let in_box : lies_in v v (box_of boxes x) ≡ (int_le v w && int_le w v) = ap (λ (s : Ranges). lies_in v v s) is in
    let at = Decides-int_eq w v in
    let more = one_var v xs boxes a (single_tail x xs boxes a h) in
    let P : Bool → Type 0 = λ b. int_eq w v ≡ b → 1 ≤ count_in v v (x ∷ xs) boxes in
    (elim (int_eq w v) as P [
      | true ↦ λ q. let e = at.0 q in let t : lies_in v v (box_of boxes x) ≡ true = grind (arith, ints) in rw t (omega arith)
      | false ↦ λ q. let r : lacks v xs a ≡ false = grind arith in let m = more r in grind arith
    ]) refl

pub int_eq-same : (v : ℤ) → int_eq v v ≡ true
int_eq-same v = (Decides-int_eq v v).1 refl

-- values that don't differ: two variables have one of them
pub record TwoVars (xs : List ℕ) (boxes : Boxes) (a : List ℤ) : Type 0 where
  pub value : ℤ
  pub there : lacks value xs a ≡ false
  pub twice : 2 ≤ count_in value value xs boxes

lies_single : (x : ℕ) (xs : List ℕ) (boxes : Boxes) (a : List ℤ) → AreSingle (x ∷ xs) boxes a → lies_in (value_of a x) (value_of a x) (box_of boxes x) ≡ true
lies_single x xs boxes a h =
    let v = value_of a x in
    ap (λ (s : Ranges). lies_in v v s) (single_head x xs boxes a h) ∙ grind (arith, ints)

two_vars : (xs : List ℕ) (boxes : Boxes) (a : List ℤ) → AreSingle xs boxes a → all_differ xs a ≡ false → TwoVars xs boxes a
two_vars [] boxes a h k = absurd cc
two_vars (x ∷ xs) boxes a h k =
    let v = value_of a x in
    let rest = single_tail x xs boxes a h in
    let here = lies_single x xs boxes a h in
    elim (and_cases (lacks v xs a) (all_differ xs a) k) [
      | inl e ↦ let one = one_var v xs boxes a rest e in record {
        value = v;
        there = let same = int_eq-same v in grind arith;
        twice = rw here (omega arith);
      }
      | inr e ↦ let more = two_vars xs boxes a rest e in record {
        value = more.value;
        there = let t = more.there in grind arith;
        twice = let t = more.twice in grind arith;
      }
    ]

crowded_from-at : (v : ℤ) (ys xs : List ℕ) (boxes : Boxes) (a : List ℤ) → AreSingle ys boxes a → lacks v ys a ≡ false → crowded v v xs boxes ≡ true → crowded_from v ys xs boxes ≡ true
crowded_from-at v [] xs boxes a h k c = absurd cc
crowded_from-at v (y ∷ ys) xs boxes a h k c =
    let is : high_of (box_of boxes y) ≡ value_of a y = ap (λ (s : Ranges). high_of s) (single_head y ys boxes a h) in
    let more = crowded_from-at v ys xs boxes a (single_tail y ys boxes a h) in
    let at = Decides-int_eq (value_of a y) v in
    let P : Bool → Type 0 = λ b. int_eq (value_of a y) v ≡ b → (crowded v (high_of (box_of boxes y)) xs boxes || crowded_from v ys xs boxes) ≡ true in
    (elim (int_eq (value_of a y) v) as P [
      | true ↦ λ q. let e : high_of (box_of boxes y) ≡ v = is ∙ at.0 q in let t : crowded v (high_of (box_of boxes y)) xs boxes ≡ true = subst (λ (z : ℤ). crowded v z xs boxes ≡ true) (sym e) c in rw t refl
      | false ↦ λ q. let r : lacks v ys a ≡ false = grind arith in let m = more r c in grind arith
    ]) refl

some_crowded-at : (v : ℤ) (ys xs : List ℕ) (boxes : Boxes) (a : List ℤ) → AreSingle ys boxes a → lacks v ys a ≡ false → crowded_from v xs xs boxes ≡ true → some_crowded ys xs boxes ≡ true
some_crowded-at v [] xs boxes a h k c = absurd cc
some_crowded-at v (y ∷ ys) xs boxes a h k c =
    let is : low_of (box_of boxes y) ≡ value_of a y = ap (λ (s : Ranges). low_of s) (single_head y ys boxes a h) in
    let more = some_crowded-at v ys xs boxes a (single_tail y ys boxes a h) in
    let at = Decides-int_eq (value_of a y) v in
    let P : Bool → Type 0 = λ b. int_eq (value_of a y) v ≡ b → (crowded_from (low_of (box_of boxes y)) xs xs boxes || some_crowded ys xs boxes) ≡ true in
    (elim (int_eq (value_of a y) v) as P [
      | true ↦ λ q. let e : low_of (box_of boxes y) ≡ v = is ∙ at.0 q in let t : crowded_from (low_of (box_of boxes y)) xs xs boxes ≡ true = subst (λ (z : ℤ). crowded_from z xs xs boxes ≡ true) (sym e) c in rw t refl
      | false ↦ λ q. let r : lacks v ys a ≡ false = grind arith in let m = more r c in grind arith
    ]) refl

pub crowded-single : (xs : List ℕ) (boxes : Boxes) (a : List ℤ) → AreSingle xs boxes a → all_differ xs a ≡ false → some_crowded xs xs boxes ≡ true
crowded-single xs boxes a h k =
    let two = two_vars xs boxes a h k in
    let v = two.value in
    let many = two.twice in
    let full : crowded v v xs boxes ≡ true = grind (arith, ints) in
    some_crowded-at v xs xs boxes a h two.there (crowded_from-at v xs xs boxes a h two.there full)
