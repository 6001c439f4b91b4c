-- Intervals in which variables that differ stand close. What a reader believes after this file:
-- where no narrow box begins a crowded interval, and each full one keeps the other boxes out, the
-- variables are at a fixpoint.
use Rattle.std.specs.Prelude.{◌≡◌, ℕ, suc, ◌<◌, ◌≤◌, ◌≤ℤ◌, Bool, true, false, not, ◌&&◌, ◌||◌, ◌==◌, List, [], ◌∷◌, ℤ, pos, ◌+ℤ◌, length, nat_lt, int_lt}
use Rattle.std.specs.List.{All}
use Rattle.signed_clause.specs.Ranges.{Ranges, has}
use Rattle.signed_clause.specs.SetAlgebra.{is_disjoint}
use Rattle.signed_clause.specs.Clauses.{Boxes, box_of}
use Rattle.ground_form.specs.Bounds.{low_of, high_of}
use Rattle.box_rules.specs.Refuted.{width, lies_in, count_in}
use Rattle.rule_law.specs.Reasons.{has_number}
use Rattle.all_different_pruner.specs.declared.interval.Finding.{Finding}
use Rattle.all_different_pruner.specs.declared.interval.Finding.TheVariants.{Crowded, Full}

-- the box lies within a..b or has no number of it
abbrev pub is_outside : ℤ → ℤ → Ranges → Bool
is_outside a b box = lies_in a b box || is_disjoint box ((a, b) ∷ [])

-- each box does
abbrev pub AreOutside : ℤ → ℤ → List ℕ → Boxes → Type 0
AreOutside a b xs boxes = All (λ x. is_outside a b (box_of boxes x) ≡ true) xs

-- a..a + d isn't crowded, and keeps the other boxes out where it is full
pub record IsFixpointAt (a : ℤ) (d : ℕ) (xs : List ℕ) (boxes : Boxes) : Type 0 where
  pub few : count_in a (a +ℤ pos d) xs boxes ≤ suc d
  pub outside : count_in a (a +ℤ pos d) xs boxes ≡ suc d → AreOutside a (a +ℤ pos d) xs boxes

-- that is so of all intervals from a on with at most as many numbers as there are variables
abbrev pub IsFixpointFrom : ℤ → List ℕ → Boxes → Type 0
IsFixpointFrom a xs boxes = (d : ℕ) → d < length xs → IsFixpointAt a d xs boxes

-- the box has fewer numbers between its ends than n
abbrev pub is_narrow : ℕ → Ranges → Bool
is_narrow n box = nat_lt (width (low_of box) (high_of box)) n

-- the same, and it has more than one: a sweep begins where it does
abbrev pub begins_sweep : ℕ → Ranges → Bool
begins_sweep n box = int_lt (low_of box) (high_of box) && is_narrow n box

-- all intervals are so from where a sweep begins for a box of the first list
abbrev pub AreSwept : List ℕ → List ℕ → Boxes → Type 0
AreSwept ys xs boxes =
    All (λ y. begins_sweep (length xs) (box_of boxes y) ≡ true
    → IsFixpointFrom (low_of (box_of boxes y)) xs boxes) ys

-- at most one box is the value alone, and the others don't have it
pub record IsAlone (a : ℤ) (xs : List ℕ) (boxes : Boxes) : Type 0 where
  pub few : count_in a a xs boxes ≤ 1
  pub outside : AreOutside a a xs boxes

-- that is so of the value of each box of the first list that has one value
abbrev pub AreAlone : List ℕ → List ℕ → Boxes → Type 0
AreAlone ys xs boxes =
    All (λ y. int_lt (low_of (box_of boxes y)) (high_of (box_of boxes y)) ≡ false
    → IsAlone (low_of (box_of boxes y)) xs boxes) ys

-- y is another variable of the list than x, and can have the value
pub record IsRival (x : ℕ) (a : ℤ) (y : ℕ) (xs : List ℕ) (boxes : Boxes) : Type 0 where
  pub differ : y ≡ x → ⊥
  pub there : has_number y xs ≡ true
  pub can : has (box_of boxes y) a ≡ true

-- no other variable of the list than x can have it
abbrev pub HaveNoRival : ℕ → ℤ → List ℕ → Boxes → Type 0
HaveNoRival x a xs boxes = All (λ y. (y == x || not (has (box_of boxes y) a)) ≡ true) xs

-- all intervals are so from where any narrow box of the first list begins
abbrev pub AreAtFixpoint : List ℕ → List ℕ → Boxes → Type 0
AreAtFixpoint ys xs boxes =
    All (λ y. is_narrow (length xs) (box_of boxes y) ≡ true
    → IsFixpointFrom (low_of (box_of boxes y)) xs boxes) ys

-- ---- what is found

-- more boxes lie within a..b than it has numbers
pub record IsCrowd (a b : ℤ) (xs : List ℕ) (boxes : Boxes) : Type 0 where
  pub order : a ≤ℤ b
  pub more : width a b < count_in a b xs boxes

-- as many boxes lie within a..b as it has numbers, and that of x, of the list, which doesn't, has
-- numbers of it
pub record IsIntruder (a b : ℤ) (x : ℕ) (xs : List ℕ) (boxes : Boxes) : Type 0 where
  pub order : a ≤ℤ b
  pub full : width a b ≤ count_in a b xs boxes
  pub there : has_number x xs ≡ true
  pub reaches : is_outside a b (box_of boxes x) ≡ false

abbrev pub IsFinding : Finding → List ℕ → Boxes → Type 0
IsFinding (Crowded a b) xs boxes = IsCrowd a.value b.value xs boxes
IsFinding (Full a b x) xs boxes = IsIntruder a.value b.value x xs boxes
