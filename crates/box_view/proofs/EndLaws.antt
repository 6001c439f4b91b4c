-- Values of a set lie between its ends; and boxes that are sets, and points of them.
use Rattle.std.proofs.Common.{◌≡◌, ℕ, zero, suc, ◌<◌, Bool, true, false, ◌&&◌, List, [], ◌∷◌, ℤ, pos, ◌+ℤ◌, ◌≤ℤ◌, refl, arith, All, length}
use Rattle.std.specs.Ordering.{int_eq}
use Rattle.std.proofs.lemmas.Int.{ints}
use Rattle.std.proofs.lemmas.Bool.Decides.{Decides-int_eq}
use Rattle.signed_clause.specs.Ranges.{Ranges, high_from, has, Ascends, IsValid, is_nil}
use Rattle.signed_clause.specs.Clauses.{Boxes, box_of}
use Rattle.signed_clause.proofs.RangeLaws.{has-below}
use Rattle.ground_form.specs.Meaning.{value_of}
use Rattle.ground_form.specs.Bounds.{low_of, high_of}
use Rattle.ground_form.specs.Solutions.{IsPoint}

pub high_from-ge : (v low top : ℤ) (rs : Ranges) → Ascends low top rs → v ≤ℤ low → v ≤ℤ high_from v rs
high_from-ge v low top [] s h = omega (arith, ints)
high_from-ge v low top (r ∷ rs) s h = let more = high_from-ge r.1 (r.1 +ℤ pos 2) top rs s.2 (omega (arith, ints)) in omega (arith, ints)

pub has-high : (d low top : ℤ) (rs : Ranges) (v : ℤ) → Ascends low top rs → has rs v ≡ true → v ≤ℤ high_from d rs
has-high d low top [] v s h = absurd (grind arith)
has-high d low top (r ∷ rs) v s h =
    let above = high_from-ge r.1 (r.1 +ℤ pos 2) top rs s.2 (omega (arith, ints)) in
    let more : has rs v ≡ true → v ≤ℤ high_from r.1 rs = has-high r.1 (r.1 +ℤ pos 2) top rs v s.2 in
    grind (arith, ints)

pub has-low : (low top : ℤ) (rs : Ranges) (v : ℤ) → Ascends low top rs → has rs v ≡ true → low_of rs ≤ℤ v
has-low low top [] v s h = absurd (grind arith)
has-low low top (r ∷ rs) v s h = let below = has-below (r.1 +ℤ pos 2) top rs v s.2 in grind (arith, ints)

-- a value lies between the ends
pub above_low : (rs : Ranges) (v : ℤ) → IsValid rs → has rs v ≡ true → low_of rs ≤ℤ v
above_low rs v s h = has-low _ _ rs v s h

pub below_high : (rs : Ranges) (v : ℤ) → IsValid rs → has rs v ≡ true → v ≤ℤ high_of rs
below_high rs v s h = has-high (pos 0) _ _ rs v s h

-- the ends of a set that isn't empty are in order
pub ends_in_order : (rs : Ranges) → IsValid rs → low_of rs ≤ℤ high_of rs
ends_in_order [] s = omega (arith, ints)
ends_in_order (r ∷ rs) s = let more = high_from-ge r.1 (r.1 +ℤ pos 2) _ rs s.2 (omega (arith, ints)) in omega (arith, ints)

-- the ends of a set that isn't empty are values of it
pub has_low : (s : Ranges) → IsValid s → is_nil s ≡ false → has s (low_of s) ≡ true
has_low [] s h = absurd cc
has_low (r ∷ rs) s h = grind (arith, ints)

high_in : (low top : ℤ) (r : ℤ × ℤ) (rs : Ranges) → Ascends low top (r ∷ rs) → has (r ∷ rs) (high_from r.1 rs) ≡ true
high_in low top r [] s = grind (arith, ints)
high_in low top r (q ∷ rs) s = let more = high_in (r.1 +ℤ pos 2) top q rs s.2 in grind arith

pub has_high : (s : Ranges) → IsValid s → is_nil s ≡ false → has s (high_of s) ≡ true
has_high [] s h = absurd cc
has_high (r ∷ rs) s h = high_in _ _ r rs s

-- ---- boxes that are sets, and points of them

abbrev pub AreSets : Boxes → Type 0
AreSets boxes = (x : ℕ) → IsValid (box_of boxes x)

empty_valid : IsValid []
empty_valid = omega (arith, ints)

pub are_sets : (boxes : Boxes) → All (λ s. IsValid s) boxes → AreSets boxes
are_sets [] h zero = empty_valid
are_sets [] h (suc x) = empty_valid
are_sets (s ∷ boxes) h zero = h 0 [] (omega arith)
are_sets (s ∷ boxes) h (suc x) = are_sets boxes (λ k d lt. h (suc k) d (omega arith)) x

-- the values of the variables of the list lie in their boxes
abbrev pub values_in : List ℕ → Boxes → List ℤ → Bool
values_in [] boxes a = true
values_in (x ∷ xs) boxes a = has (box_of boxes x) (value_of a x) && values_in xs boxes a

pub point_values : (xs : List ℕ) (boxes : Boxes) (a : List ℤ) → All (λ x. x < length boxes) xs → IsPoint boxes a → values_in xs boxes a ≡ true
point_values [] boxes a h p = refl
point_values (x ∷ xs) boxes a h p =
    let this = p.within x (h 0 0 (omega arith)) in
    let more = point_values xs boxes a (λ k d lt. h (suc k) d (omega arith)) p in
    grind arith

-- ---- boxes of single values

-- the boxes of the variables of the list are their values alone
abbrev pub AreSingle : List ℕ → Boxes → List ℤ → Type 0
AreSingle xs boxes a = All (λ x. box_of boxes x ≡ (value_of a x, value_of a x) ∷ []) xs

pub single_head : (x : ℕ) (xs : List ℕ) (boxes : Boxes) (a : List ℤ) → AreSingle (x ∷ xs) boxes a → box_of boxes x ≡ (value_of a x, value_of a x) ∷ []
single_head x xs boxes a h = h 0 0 (omega arith)

pub single_tail : (x : ℕ) (xs : List ℕ) (boxes : Boxes) (a : List ℤ) → AreSingle (x ∷ xs) boxes a → AreSingle xs boxes a
single_tail x xs boxes a h = λ k d lt. h (suc k) d (omega arith)

pub single_has : (v w : ℤ) → has ((v, v) ∷ []) w ≡ int_eq v w
single_has v w = let e = Decides-int_eq v w in grind (arith, ints)
