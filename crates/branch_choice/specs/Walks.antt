-- What the walks of the orders have come to. What a reader believes after this file: nothing that
-- `Picks` doesn't say; these are its parts at one variable, and at the variables before one.
use Rattle.std.specs.Prelude.{◌≡◌, ℕ, ◌<◌, ◌≤◌, true, false, Option, Some}
use Rattle.std.specs.Option.{IfSome, IfNone}
use Rattle.signed_clause.specs.Ranges.{count_of, IsLeast}
use Rattle.signed_clause.specs.SetAlgebra.{is_disjoint, is_within}
use Rattle.signed_clause.specs.Clauses.{Boxes, box_of}
use Rattle.branch_choice.specs.declared.orders.Size.{Size}
use Rattle.branch_choice.specs.declared.split.Split.{Split}
use Rattle.branch_choice.specs.Picks.{Hints, half_of, hint_in, hint_of, is_single, AreAllSingle}

-- both halves of the split of x have values
pub record IsSplitOf (boxes : Boxes) (x : ℕ) (s : Split) : Type 0 where
  pub var : s.var ≡ x
  pub alone : s.upto ≡ false
  pub taken : is_disjoint (half_of s) (box_of boxes x) ≡ false
  pub left : is_within (box_of boxes x) (half_of s) ≡ false

-- and it is at the least value
pub record IsLeastSplitOf (boxes : Boxes) (x : ℕ) (s : Split) : Type 0 where
  pub split : IsSplitOf boxes x s
  pub value : IsLeast (box_of boxes x) s.value

-- and it is at the hint
pub record IsHintSplitOf (boxes : Boxes) (hints : Hints) (x : ℕ) (s : Split) : Type 0 where
  pub split : IsSplitOf boxes x s
  pub value : hint_of hints x ≡ Some s.value
  pub within : hint_in (hint_of hints x) (box_of boxes x) ≡ true

-- of the variables before n that aren't single values, that of the size is the first one with
-- fewest values
pub record IsSmallest (boxes : Boxes) (n : ℕ) (size : Size) : Type 0 where
  pub below : size.var < n
  pub several : is_single (box_of boxes size.var) ≡ false
  pub count : size.count ≡ count_of (box_of boxes size.var)
  pub fewest : (x : ℕ) → x < n → is_single (box_of boxes x) ≡ false
      → size.count ≤ count_of (box_of boxes x)
  pub first : (x : ℕ) → x < size.var → is_single (box_of boxes x) ≡ false
      → size.count < count_of (box_of boxes x)

-- it is the smallest of those before n, where there is one
pub record IsSmallestBelow (boxes : Boxes) (n : ℕ) (smallest : Option Size) : Type 0 where
  pub some : IfSome smallest (λ size. IsSmallest boxes n size)
  pub none : IfNone smallest (AreAllSingle boxes n)

-- it is the first before n that isn't a single value
pub record IsFirst (boxes : Boxes) (n x : ℕ) : Type 0 where
  pub below : x < n
  pub several : is_single (box_of boxes x) ≡ false
  pub first : AreAllSingle boxes x

-- it is that one, where there is one
pub record IsFirstBelow (boxes : Boxes) (n : ℕ) (undecided : Option ℕ) : Type 0 where
  pub some : IfSome undecided (λ x. IsFirst boxes n x)
  pub none : IfNone undecided (AreAllSingle boxes n)

-- and none before n that isn't a single value has its hint in its box
pub record IsWithoutHint (boxes : Boxes) (hints : Hints) (n : ℕ) (undecided : Option ℕ) : Type 0
  where
    pub first : IsFirstBelow boxes n undecided
    pub none : (x : ℕ) → x < n → is_single (box_of boxes x) ≡ false
        → hint_in (hint_of hints x) (box_of boxes x) ≡ false
