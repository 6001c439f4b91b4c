-- Which split a chooser picks. What a reader believes after this file: a split leaves values on
-- both sides of a searched box; there is none exactly where all of these are single values; and
-- each order but Own says which split it is.
use Rattle.std.specs.Prelude.{◌≡◌, ℕ, ◌<◌, ◌≤◌, ◌^◌, Bool, true, false, cond, List, [], ◌∷◌, ℤ, negsuc, Option, Some, None, length, slice_index_or}
use Rattle.std.specs.Borrow.{Bor}
use Rattle.std.specs.List.{All}
use Rattle.std.specs.Option.{ForSome, ForNone}
use Rattle.std.specs.Ordering.{int_eq}
use Rattle.signed_clause.specs.Ranges.{Ranges, has, is_nil, count_of, IsValid, IsLeast}
use Rattle.signed_clause.specs.SetAlgebra.{is_disjoint, is_within}
use Rattle.signed_clause.specs.Clauses.{Boxes, box_of}
use Rattle.branch_choice.specs.declared.split.Split.{Split}
use Rattle.branch_choice.specs.declared.split.Order.{Order}
use Rattle.branch_choice.specs.declared.split.Order.TheVariants as orders

-- for each variable a value that it had before, where there is one
abbrev pub Hints : Type 0
Hints = List (Option ℤ)

-- ---- what choosers are asked about

-- boxes that are sets with values, and no more searched variables than there are boxes and hints
pub record IsAsked (boxes : Boxes) (hints : Hints) (search : ℕ) : Type 0 where
  pub sets : All (λ s. IsValid s) boxes
  pub some : All (λ s. is_nil s ≡ false) boxes
  pub few : search < 2 ^ 32
  pub boxed : search ≤ length boxes
  pub hinted : search ≤ length hints

-- ---- undecided variables

-- the set is a single value
abbrev pub is_single : Ranges → Bool
is_single (r ∷ []) = int_eq r.0 r.1
is_single set = false

-- x is searched, and its box isn't a single value
pub record IsUndecided (boxes : Boxes) (search x : ℕ) : Type 0 where
  pub searched : x < search
  pub several : is_single (box_of boxes x) ≡ false

-- no searched variable is undecided
abbrev pub AreAllSingle : Boxes → ℕ → Type 0
AreAllSingle boxes search = (x : ℕ) → x < search → is_single (box_of boxes x) ≡ true

-- ---- splits

-- the part of a box that the split takes first: its value alone, or the values up to it
abbrev pub half_of : Split → Ranges
half_of s = (cond s.upto (negsuc 9223372036854775807) s.value, s.value) ∷ []

-- both halves of the split have values
pub record IsSplit (boxes : Boxes) (search : ℕ) (s : Split) : Type 0 where
  pub undecided : IsUndecided boxes search s.var
  pub taken : is_disjoint (half_of s) (box_of boxes s.var) ≡ false
  pub left : is_within (box_of boxes s.var) (half_of s) ≡ false

-- ---- first

-- the least undecided variable, and its least value alone
pub record IsFirstSplit (boxes : Boxes) (search : ℕ) (s : Split) : Type 0 where
  pub undecided : IsUndecided boxes search s.var
  pub first : (x : ℕ) → IsUndecided boxes search x → s.var ≤ x
  pub value : IsLeast (box_of boxes s.var) s.value
  pub alone : s.upto ≡ false

-- ---- small

-- the undecided variable with fewest values, the least such one, and its least value alone
pub record IsSmallSplit (boxes : Boxes) (search : ℕ) (s : Split) : Type 0 where
  pub undecided : IsUndecided boxes search s.var
  pub fewest : (x : ℕ) → IsUndecided boxes search x
      → count_of (box_of boxes s.var) ≤ count_of (box_of boxes x)
  pub first : (x : ℕ) → IsUndecided boxes search x → x < s.var
      → count_of (box_of boxes s.var) < count_of (box_of boxes x)
  pub value : IsLeast (box_of boxes s.var) s.value
  pub alone : s.upto ≡ false

-- ---- former

-- there is a hint, and it is a value of the set
abbrev pub hint_in : Option ℤ → Ranges → Bool
hint_in None set = false
hint_in (Some v) set = has set v

-- the hint of x
abbrev pub hint_of : Hints → ℕ → Option ℤ
hint_of hints x = slice_index_or hints x None

-- x is undecided, and its hint is in its box
pub record IsHinted (boxes : Boxes) (hints : Hints) (search x : ℕ) : Type 0 where
  pub undecided : IsUndecided boxes search x
  pub within : hint_in (hint_of hints x) (box_of boxes x) ≡ true

-- the least hinted variable, and its hint alone
pub record IsHintSplit (boxes : Boxes) (hints : Hints) (search : ℕ) (s : Split) : Type 0 where
  pub hinted : IsHinted boxes hints search s.var
  pub first : (x : ℕ) → IsHinted boxes hints search x → s.var ≤ x
  pub value : hint_of hints s.var ≡ Some s.value
  pub alone : s.upto ≡ false

-- where a variable is hinted, the least such one and its hint; else as first
pub record IsFormerSplit (boxes : Boxes) (hints : Hints) (search : ℕ) (s : Split) : Type 0 where
  pub hinted : (x : ℕ) → IsHinted boxes hints search x
      → IsHintSplit boxes hints search s
  pub none : ((x : ℕ) → IsHinted boxes hints search x → ⊥) → IsFirstSplit boxes search s

-- ---- picks

-- what may be answered by a chooser of the order
pub record IsPick (order : Order) (boxes : Boxes) (hints : Hints) (search : ℕ)
    (answer : Option Split) : Type 0 where
  pub none : ForNone answer (AreAllSingle boxes search)
  pub split : ForSome answer (λ s. IsSplit boxes search s)
  pub first : order ≡ orders.First → ForSome answer (λ s. IsFirstSplit boxes search s)
  pub small : order ≡ orders.Small → ForSome answer (λ s. IsSmallSplit boxes search s)
  pub former : order ≡ orders.Former → ForSome answer (λ s. IsFormerSplit boxes hints search s)

-- ---- functions that pick

-- one may be called on whatever choosers are asked about
abbrev pub MayBeAsked : (Bor Boxes → Bor Hints → ℕ → Type 0) → Type 0
MayBeAsked pre = (boxes : Bor Boxes) (hints : Bor Hints) (search : ℕ)
    → IsAsked boxes.now hints.now search → pre boxes hints search

-- whatever it answers then may be answered by a chooser of the order
abbrev pub PicksBy : Order → (Bor Boxes → Bor Hints → ℕ → Option Split → Type 0) → Type 0
PicksBy order post = (boxes : Bor Boxes) (hints : Bor Hints) (search : ℕ) (answer : Option Split)
    → IsAsked boxes.now hints.now search → post boxes hints search answer
    → IsPick order boxes.now hints.now search answer
