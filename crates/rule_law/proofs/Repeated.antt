-- Which numbers stand twice in a list: none where they ascend; and those that stand side by side in
-- a copy in order.
use Rattle.std.proofs.Common.{◌≡◌, ℕ, suc, ◌+◌, ◌<◌, ◌≤◌, ◌==◌, Bool, true, false, not, ◌&&◌, ◌||◌, cond, drop, slice_get, add-one, Option, Some, None, List, [], ◌∷◌, length, get_or, refl, ap, sym, arith, ◌∙◌}
use Rattle.std.specs.Prelude.{nat_le, IfSome}
use Rattle.std.specs.List.{sum_by}
use Rattle.std.specs.List.Sorted.{IsPermutation, IsNonDecreasing}
use Rattle.std.proofs.lemmas.Bool.{and_parts, false_from_ne_true}
use Rattle.std.proofs.lemmas.Bool.Decides.{nat_tests}
use Rattle.std.proofs.lemmas.List.Sorted.{sum_by-IsPermutation}
use Rattle.std.proofs.lemmas.List.Sums.{sum_by-cons}
use Rattle.signed_clause.specs.Clauses.{Boxes, box_of}
use Rattle.rule_law.specs.Reasons.{has_number, no_repeat}
use Rattle.ground_form.proofs.VarsAt.{next_var}
use Rattle.rule_law.specs.Repeats.{is_repeated, AreRepeated, is_one, all_one, open_vars, ascends, is_again, doubles_after, IsKept}
use Rattle.box_view.proofs.SetLaws.{bool_same}

-- ---- numbers that ascend

-- numbers from low on
lacks_below : (low top x : ℕ) (xs : List ℕ) → ascends low top xs ≡ true → x < low → has_number x xs ≡ false
lacks_below low top x [] h k = refl
lacks_below low top x (y ∷ xs) h k =
    let p = and_parts (nat_le low y) (ascends (suc y) top xs) h in
    let l : low ≤ y = let q = p.0 in grind (arith, nat_tests) in
    let more = lacks_below (suc y) top x xs p.1 (omega arith) in
    let no : (y == x) ≡ false = grind (arith, nat_tests) in rw (no, more) refl

-- and below top
lacks_above : (low top x : ℕ) (xs : List ℕ) → ascends low top xs ≡ true → top ≤ x → (low ≤ top) × (has_number x xs ≡ false)
lacks_above low top x [] h k = (grind (arith, nat_tests), refl)
lacks_above low top x (y ∷ xs) h k =
    let p = and_parts (nat_le low y) (ascends (suc y) top xs) h in
    let l : low ≤ y = let q = p.0 in grind (arith, nat_tests) in
    let more = lacks_above (suc y) top x xs p.1 k in
    let m = more.0 in
    let no : (y == x) ≡ false = grind (arith, nat_tests) in let rest = more.1 in (omega arith, rw (no, rest) refl)

ascending_differ : (low top : ℕ) (xs : List ℕ) → ascends low top xs ≡ true → no_repeat xs ≡ true
ascending_differ low top [] h = refl
ascending_differ low top (x ∷ xs) h =
    let p = and_parts (nat_le low x) (ascends (suc x) top xs) h in
    let no = lacks_below (suc x) top x xs p.1 (omega arith) in
    let more = ascending_differ (suc x) top xs p.1 in rw (no, more) refl

-- the first is behind all others
pub differ_behind : (x top : ℕ) (xs : List ℕ) → ascends 0 top xs ≡ true → top ≤ x → no_repeat (x ∷ xs) ≡ true
differ_behind x top xs h k =
    let no = (lacks_above 0 top x xs h k).1 in let more = ascending_differ 0 top xs h in rw (no, more) refl

-- or before all of them
pub differ_before : (x y top : ℕ) (xs : List ℕ) → ascends 0 top (y ∷ xs) ≡ true → x < y → no_repeat (x ∷ y ∷ xs) ≡ true
differ_before x y top xs h k =
    let p = and_parts (nat_le 0 y) (ascends (suc y) top xs) h in
    let no = lacks_below (suc y) top x xs p.1 (omega arith) in
    let other : (y == x) ≡ false = grind (arith, nat_tests) in
    let more = ascending_differ 0 top (y ∷ xs) h in
    let gone : has_number x (y ∷ xs) ≡ false = rw (other, no) refl in rw (gone, more) refl

-- said of a list's first
pub no_first : (xs : List ℕ) → slice_get xs 0 ≡ None → no_repeat xs ≡ true
no_first [] h = refl
no_first (y ∷ xs) h = absurd cc

pub first_behind : (x top : ℕ) (xs : List ℕ) → slice_get xs 0 ≡ Some x → ascends 0 top (drop 1 xs) ≡ true → top ≤ x → no_repeat xs ≡ true
first_behind x top [] is h k = absurd cc
first_behind x top (y ∷ xs) is h k = let same : y ≡ x = cc in differ_behind y top xs h (omega (arith, same))

pub first_before : (x top : ℕ) (xs : List ℕ) → slice_get xs 0 ≡ Some x → ascends 0 top (drop 1 xs) ≡ true → IfSome (slice_get xs 1) (λ y. x < y) → no_repeat xs ≡ true
first_before x top [] is h k = absurd cc
first_before x top (y ∷ []) is h k = refl
first_before x top (y ∷ z ∷ xs) is h k = let same : y ≡ x = cc in differ_before y z top xs h (omega (arith, same))

-- one more of them
pub rise_on : (low top x i : ℕ) (xs : List ℕ) → slice_get xs i ≡ Some x → low ≤ x → ascends (x + 1) top (drop (i + 1) xs) ≡ true → ascends low top (drop i xs) ≡ true
rise_on low top x i xs is le h =
    let up : ascends (suc x) top (drop (suc i) xs) ≡ true = rw (add-one, add-one) at h in
    let from : nat_le low x ≡ true = grind (arith, nat_tests) in rw (next_var xs i x is, from) up

-- ---- where none stands twice

none_repeated : (xs : List ℕ) → ((x : ℕ) → is_repeated x xs ≡ false) → no_repeat xs ≡ true
none_repeated [] h = refl
none_repeated (x ∷ xs) h =
    let more = none_repeated xs (λ y. let here = h y in grind arith) in
    let P : Bool → Type 0 = λ b. has_number x xs ≡ b → (not b && no_repeat xs) ≡ true in
    (elim (has_number x xs) as P [
      | true ↦ λ e. let self : (x == x) ≡ true = grind (arith, nat_tests) in absurd (let bad = h x in grind arith)
      | false ↦ λ e. more
    ]) refl

no_numbers : (xs : List ℕ) → ((x : ℕ) → has_number x xs ≡ false) → length xs ≡ 0
no_numbers [] h = refl
no_numbers (x ∷ xs) h = let self : (x == x) ≡ true = grind (arith, nat_tests) in absurd (let bad = h x in grind arith)

-- ---- open ones

open_number : (x : ℕ) (xs : List ℕ) (boxes : Boxes) → has_number x (open_vars xs boxes) ≡ true → (has_number x xs ≡ true) × (is_one (box_of boxes x) ≡ false)
open_number x [] boxes h = absurd cc
open_number x (y ∷ xs) boxes h =
    let P : Bool → Type 0 = λ b. is_one (box_of boxes y) ≡ b → has_number x (cond b (open_vars xs boxes) (y ∷ open_vars xs boxes)) ≡ true → (has_number x (y ∷ xs) ≡ true) × (is_one (box_of boxes x) ≡ false) in
    (elim (is_one (box_of boxes y)) as P [
      | true ↦ λ e k. let more = open_number x xs boxes k in let there = more.0 in (grind arith, more.1)
      | false ↦ λ e k.
          let Q : Bool → Type 0 = λ b. (y == x) ≡ b → (b || has_number x (open_vars xs boxes)) ≡ true → ((b || has_number x xs) ≡ true) × (is_one (box_of boxes x) ≡ false) in
          (elim (y == x) as Q [
            | true ↦ λ f m. let same : y ≡ x = grind (arith, nat_tests) in (refl, ap (λ (z : ℕ). is_one (box_of boxes z)) (sym same) ∙ e)
            | false ↦ λ f m. let more = open_number x xs boxes m in (more.0, more.1)
          ]) refl k
    ]) refl h

open_repeated : (x : ℕ) (xs : List ℕ) (boxes : Boxes) → is_repeated x (open_vars xs boxes) ≡ true → (is_repeated x xs ≡ true) × (is_one (box_of boxes x) ≡ false)
open_repeated x [] boxes h = absurd cc
open_repeated x (y ∷ xs) boxes h =
    let P : Bool → Type 0 = λ b. is_one (box_of boxes y) ≡ b → is_repeated x (cond b (open_vars xs boxes) (y ∷ open_vars xs boxes)) ≡ true → (is_repeated x (y ∷ xs) ≡ true) × (is_one (box_of boxes x) ≡ false) in
    (elim (is_one (box_of boxes y)) as P [
      | true ↦ λ e k. let more = open_repeated x xs boxes k in let there = more.0 in (grind arith, more.1)
      | false ↦ λ e k.
          let Q : Bool → Type 0 = λ b. (y == x && has_number x (open_vars xs boxes)) ≡ b → (b || is_repeated x (open_vars xs boxes)) ≡ true → (is_repeated x (y ∷ xs) ≡ true) × (is_one (box_of boxes x) ≡ false) in
          (elim (y == x && has_number x (open_vars xs boxes)) as Q [
            | true ↦ λ f m.
                let parts = and_parts (y == x) (has_number x (open_vars xs boxes)) f in
                let there = open_number x xs boxes parts.1 in let same = parts.0 in let stands = there.0 in (grind arith, there.1)
            | false ↦ λ f m. let more = open_repeated x xs boxes m in let stands = more.0 in (grind arith, more.1)
          ]) refl k
    ]) refl h

pub never_repeated : (x : ℕ) (xs : List ℕ) → no_repeat xs ≡ true → is_repeated x xs ≡ false
never_repeated x [] h = refl
never_repeated x (y ∷ xs) h =
    let p = and_parts (not (has_number y xs)) (no_repeat xs) h in
    let none = p.0 in
    let more = never_repeated x xs p.1 in
    let P : Bool → Type 0 = λ b. (y == x) ≡ b → ((b && has_number x xs) || is_repeated x xs) ≡ false in
    (elim (y == x) as P [
      | true ↦ λ e. let same : y ≡ x = grind (arith, nat_tests) in let gone : has_number y xs ≡ false = grind arith in let here : has_number x xs ≡ false = ap (λ (z : ℕ). has_number z xs) (sym same) ∙ gone in rw (here, more) refl
      | false ↦ λ e. more
    ]) refl

other_number : (x y : ℕ) (boxes : Boxes) → is_one (box_of boxes x) ≡ false → is_one (box_of boxes y) ≡ true → (y == x) ≡ false
other_number x y boxes h k =
    let P : Bool → Type 0 = λ b. (y == x) ≡ b → b ≡ false in
    (elim (y == x) as P [
      | true ↦ λ e. absurd (let same : y ≡ x = grind (arith, nat_tests) in let both = ap (λ (z : ℕ). is_one (box_of boxes z)) same in cc)
      | false ↦ λ e. refl
    ]) refl

-- ones that stay open
stays_open : (x : ℕ) (xs : List ℕ) (boxes : Boxes) → is_one (box_of boxes x) ≡ false → has_number x (open_vars xs boxes) ≡ has_number x xs
stays_open x [] boxes h = refl
stays_open x (y ∷ xs) boxes h =
    let more = stays_open x xs boxes h in
    let P : Bool → Type 0 = λ b. is_one (box_of boxes y) ≡ b → has_number x (cond b (open_vars xs boxes) (y ∷ open_vars xs boxes)) ≡ (y == x || has_number x xs) in
    (elim (is_one (box_of boxes y)) as P [
      | true ↦ λ e. rw (other_number x y boxes h e, more) refl
      | false ↦ λ e. rw more refl
    ]) refl

repeated_open : (x : ℕ) (xs : List ℕ) (boxes : Boxes) → is_one (box_of boxes x) ≡ false → is_repeated x (open_vars xs boxes) ≡ is_repeated x xs
repeated_open x [] boxes h = refl
repeated_open x (y ∷ xs) boxes h =
    let more = repeated_open x xs boxes h in
    let there = stays_open x xs boxes h in
    let P : Bool → Type 0 = λ b. is_one (box_of boxes y) ≡ b → is_repeated x (cond b (open_vars xs boxes) (y ∷ open_vars xs boxes)) ≡ ((y == x && has_number x xs) || is_repeated x xs) in
    (elim (is_one (box_of boxes y)) as P [
      | true ↦ λ e. rw (other_number x y boxes h e, more) refl
      | false ↦ λ e. rw (there, more) refl
    ]) refl

one_at : (x : ℕ) (xs : List ℕ) (boxes : Boxes) → all_one xs boxes ≡ true → has_number x xs ≡ true → is_one (box_of boxes x) ≡ true
one_at x [] boxes h k = absurd cc
one_at x (y ∷ xs) boxes h k =
    let p = and_parts (is_one (box_of boxes y)) (all_one xs boxes) h in
    let Q : Bool → Type 0 = λ b. (y == x) ≡ b → (b || has_number x xs) ≡ true → is_one (box_of boxes x) ≡ true in
    (elim (y == x) as Q [
      | true ↦ λ e m. let same : y ≡ x = grind (arith, nat_tests) in ap (λ (z : ℕ). is_one (box_of boxes z)) (sym same) ∙ p.0
      | false ↦ λ e m. one_at x xs boxes p.1 m
    ]) refl k

all_one_from : (xs : List ℕ) (boxes : Boxes) → ((x : ℕ) → has_number x xs ≡ true → is_one (box_of boxes x) ≡ true) → all_one xs boxes ≡ true
all_one_from [] boxes h = refl
all_one_from (y ∷ xs) boxes h =
    let self : (y == y) ≡ true = grind (arith, nat_tests) in
    let here : is_one (box_of boxes y) ≡ true = h y (rw self refl) in
    let more = all_one_from xs boxes (λ x k. h x (grind arith)) in rw (here, more) refl

-- the open ones differ where those that stand twice are one value
ones_differ : (repeated xs : List ℕ) (boxes : Boxes) → AreRepeated repeated xs → all_one repeated boxes ≡ true → no_repeat (open_vars xs boxes) ≡ true
ones_differ repeated xs boxes are ones =
    none_repeated (open_vars xs boxes) (λ x. false_from_ne_true (is_repeated x (open_vars xs boxes)) (λ h.
    let t = open_repeated x xs boxes h in let one = one_at x repeated boxes ones (are x ∙ t.0) in let none = t.1 in absurd cc))

differ_ones : (repeated xs : List ℕ) (boxes : Boxes) → AreRepeated repeated xs → no_repeat (open_vars xs boxes) ≡ true → all_one repeated boxes ≡ true
differ_ones repeated xs boxes are h =
    all_one_from repeated boxes (λ x k.
    let P : Bool → Type 0 = λ b. is_one (box_of boxes x) ≡ b → b ≡ true in
    (elim (is_one (box_of boxes x)) as P [
      | true ↦ λ e. refl
      | false ↦ λ e. absurd (let no = never_repeated x (open_vars xs boxes) h in let open_too = repeated_open x xs boxes e in let there = are x in cc)
    ]) refl)

-- and nowhere else
pub open_differ : (repeated xs : List ℕ) (boxes : Boxes) → AreRepeated repeated xs → all_one repeated boxes ≡ no_repeat (open_vars xs boxes)
open_differ repeated xs boxes are = bool_same (all_one repeated boxes) (no_repeat (open_vars xs boxes)) (ones_differ repeated xs boxes are) (differ_ones repeated xs boxes are)

-- where all differ
pub all_differ : (xs : List ℕ) (boxes : Boxes) → no_repeat xs ≡ true → no_repeat (open_vars xs boxes) ≡ true
all_differ xs boxes h = ones_differ [] xs boxes (λ x. sym (never_repeated x xs h)) refl

-- said of a list that is kept
pub kept_repeated : (known : List (List ℕ × List ℕ)) (i : ℕ) (d : List ℕ × List ℕ) (xs repeated : List ℕ) → IsKept known i xs → AreRepeated repeated (get_or known i d).0 → AreRepeated repeated xs
kept_repeated known i d xs repeated is are x = are x ∙ ap (is_repeated x) (is.1 d)

no_length : (xs : List ℕ) → length xs ≡ 0 → xs ≡ []
no_length [] h = refl
no_length (x ∷ xs) h = absurd (omega (arith, h))

-- none of them stands twice exactly where nothing is listed
pub none_listed : (repeated xs : List ℕ) (test : Bool) → AreRepeated repeated xs → (test ≡ true → length repeated ≡ 0) → (length repeated ≡ 0 → test ≡ true) → test ≡ no_repeat xs
none_listed repeated xs test are h k =
    bool_same test (no_repeat xs)
    (λ t. none_repeated xs (λ x. sym (are x) ∙ ap (has_number x) (no_length repeated (h t))))
    (λ n. k (no_numbers repeated (λ x. are x ∙ never_repeated x xs n)))

-- two variables of a list in which none stands twice
pub both_once : (x y : ℕ) (xs : List ℕ) → no_repeat xs ≡ true → true ≡ (not (is_repeated x xs) && not (is_repeated y xs))
both_once x y xs h = let first = never_repeated x xs h in let second = never_repeated y xs h in rw (first, second) refl

-- ---- in order

abbrev one_of : ℕ → ℕ → ℕ
one_of x y = cond (y == x) 1 0

abbrev times : ℕ → List ℕ → ℕ
times x xs = sum_by (λ y. one_of x y) xs

times_cons : (x y : ℕ) (ys : List ℕ) → times x (y ∷ ys) ≡ one_of x y + times x ys
times_cons x y ys = sum_by-cons (λ z. one_of x z) y ys

some_times : (x : ℕ) (xs : List ℕ) → has_number x xs ≡ true → 1 ≤ times x xs
some_times x [] h = absurd (grind arith)
some_times x (y ∷ xs) h = let here = times_cons x y xs in let more = some_times x xs in grind arith

two_times : (x : ℕ) (xs : List ℕ) → is_repeated x xs ≡ true → 2 ≤ times x xs
two_times x [] h = absurd (grind arith)
two_times x (y ∷ xs) h = let here = times_cons x y xs in let more = two_times x xs in let one = some_times x xs in grind arith

-- greater numbers
none_from : (x : ℕ) (xs : List ℕ) → ((k d : ℕ) → k < length xs → x < get_or xs k d) → times x xs ≡ 0
none_from x [] h = refl
none_from x (y ∷ xs) h =
    let here = times_cons x y xs in
    let first = h 0 0 (omega arith) in
    let more = none_from x xs (λ k d lt. h (suc k) d (omega arith)) in
    let other : (y == x) ≡ false = grind (arith, nat_tests) in grind arith

rest_in_order : (y : ℕ) (ys : List ℕ) → IsNonDecreasing (y ∷ ys) → IsNonDecreasing ys
rest_in_order y ys up i j d le lt = up (suc i) (suc j) d (omega arith) (omega arith)

first_least : (y : ℕ) (ys : List ℕ) → IsNonDecreasing (y ∷ ys) → (k d : ℕ) → k < length ys → y ≤ get_or ys k d
first_least y ys up k d lt = up 0 (suc k) d (omega arith) (omega arith)

-- x is the last, and stands again
found_again : (x : ℕ) (ys : List ℕ) → IsNonDecreasing (x ∷ ys) → 1 ≤ times x ys → has_number x (doubles_after (Some x) ys) ≡ true
found_again x [] up h = absurd (let none : times x [] ≡ 0 = refl in omega arith)
found_again x (y ∷ ys) up h =
    let P : Bool → Type 0 = λ b. (x == y) ≡ b → has_number x (cond b (y ∷ doubles_after (Some y) ys) (doubles_after (Some y) ys)) ≡ true in
    (elim (x == y) as P [
      | true ↦ λ e. let same : (y == x) ≡ true = grind (arith, nat_tests) in rw same refl
      | false ↦ λ e.
          let least = first_least x (y ∷ ys) up 0 0 (omega arith) in
          let greater : x < y = grind (arith, nat_tests) in
          let none = none_from x (y ∷ ys) (λ k d lt. let up2 = rest_in_order x (y ∷ ys) up 0 k d (omega arith) lt in omega arith) in absurd (omega arith)
    ]) refl

found_repeated : (last : Option ℕ) (x : ℕ) (ys : List ℕ) → IsNonDecreasing ys → 2 ≤ times x ys → has_number x (doubles_after last ys) ≡ true
found_repeated last x [] up h = absurd (let none : times x [] ≡ 0 = refl in omega arith)
found_repeated last x (y ∷ ys) up h =
    let here = times_cons x y ys in
    let rest : has_number x (doubles_after (Some y) ys) ≡ true =
    let P : Bool → Type 0 = λ b. (y == x) ≡ b → has_number x (doubles_after (Some y) ys) ≡ true in
    (elim (y == x) as P [
      | true ↦ λ e.
          let same : y ≡ x = grind (arith, nat_tests) in
          let few : 1 ≤ times x ys = grind arith in
          let up2 : IsNonDecreasing (x ∷ ys) = rw same at up in
          ap (λ (z : ℕ). has_number x (doubles_after (Some z) ys)) same ∙ found_again x ys up2 few
      | false ↦ λ e. found_repeated (Some y) x ys (rest_in_order y ys up) (grind arith)
    ]) refl in
    let Q : Bool → Type 0 = λ b. has_number x (cond b (y ∷ doubles_after (Some y) ys) (doubles_after (Some y) ys)) ≡ true in
    elim (is_again last y) as Q [
      | true ↦ grind arith
      | false ↦ rest
    ]

-- x is the number last seen and stands in the list, or it stands there twice
double_times : (last : Option ℕ) (x : ℕ) (ys : List ℕ) → has_number x (doubles_after last ys) ≡ true → 2 ≤ cond (is_again last x) 1 0 + times x ys
double_times last x [] h = absurd cc
double_times last x (y ∷ ys) h =
    let here = times_cons x y ys in
    let more : has_number x (doubles_after (Some y) ys) ≡ true → 2 ≤ one_of x y + times x ys = double_times (Some y) x ys in
    let P : Bool → Type 0 = λ b. is_again last y ≡ b → has_number x (cond b (y ∷ doubles_after (Some y) ys) (doubles_after (Some y) ys)) ≡ true → 2 ≤ cond (is_again last x) 1 0 + times x (y ∷ ys) in
    (elim (is_again last y) as P [
      | true ↦ λ e k.
          let Q : Bool → Type 0 = λ b. (y == x) ≡ b → (b || has_number x (doubles_after (Some y) ys)) ≡ true → 2 ≤ cond (is_again last x) 1 0 + times x (y ∷ ys) in
          (elim (y == x) as Q [
            | true ↦ λ f m.
                let same : y ≡ x = grind (arith, nat_tests) in
                let again : is_again last x ≡ true = ap (is_again last) (sym same) ∙ e in
                let one : one_of x y ≡ 1 = rw f refl in rw again (omega (arith, here, one))
            | false ↦ λ f m. let two = more m in omega (arith, here, two)
          ]) refl k
      | false ↦ λ e k. let two = more k in omega (arith, here, two)
    ]) refl h

number_times : (x : ℕ) (xs : List ℕ) → 1 ≤ times x xs → has_number x xs ≡ true
number_times x [] h = absurd (let none : times x [] ≡ 0 = refl in omega (arith, h, none))
number_times x (y ∷ xs) h =
    let here = times_cons x y xs in
    let more = number_times x xs in
    let P : Bool → Type 0 = λ b. (y == x) ≡ b → (b || has_number x xs) ≡ true in
    (elim (y == x) as P [
      | true ↦ λ e. refl
      | false ↦ λ e. more (let none : one_of x y ≡ 0 = rw e refl in omega (arith, h, here, none))
    ]) refl

repeated_times : (x : ℕ) (xs : List ℕ) → 2 ≤ times x xs → is_repeated x xs ≡ true
repeated_times x [] h = absurd (let none : times x [] ≡ 0 = refl in omega (arith, h, none))
repeated_times x (y ∷ xs) h =
    let here = times_cons x y xs in
    let P : Bool → Type 0 = λ b. (y == x) ≡ b → ((b && has_number x xs) || is_repeated x xs) ≡ true in
    (elim (y == x) as P [
      | true ↦ λ e. let there = number_times x xs (let one : one_of x y ≡ 1 = rw e refl in omega (arith, h, here, one)) in rw there refl
      | false ↦ λ e. repeated_times x xs (let none : one_of x y ≡ 0 = rw e refl in omega (arith, h, here, none))
    ]) refl

-- those side by side in a copy in order are all that stand twice, and no others
pub repeated_in_order : (xs ys : List ℕ) → IsPermutation xs ys → IsNonDecreasing ys → AreRepeated (doubles_after None ys) xs
repeated_in_order xs ys p up x =
    let e = sum_by-IsPermutation (λ y. one_of x y) xs ys p in
    bool_same (has_number x (doubles_after None ys)) (is_repeated x xs)
    (λ h. let two = double_times None x ys h in repeated_times x xs (omega (arith, e, two)))
    (λ h. let two = two_times x xs h in found_repeated None x ys up (omega (arith, e, two)))
