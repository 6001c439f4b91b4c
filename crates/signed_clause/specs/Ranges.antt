-- A finite set of integers is the list of its ranges. What a reader believes after this file: which
-- numbers such a list holds, when it is the one list of its set, and what its least and greatest
-- value and its size are.
use Rattle.std.specs.Prelude.{◌≡◌, ℕ, suc, ◌+◌, unsigned_abs, Bool, true, false, ◌&&◌, ◌||◌, List, [], ◌∷◌, ℤ, pos, negsuc, ◌+ℤ◌, ◌-ℤ◌, ◌≤ℤ◌, int_le, Option, Some, None}

-- ranges, each with its least and its greatest value
abbrev pub Ranges : Type 0
Ranges = List (ℤ × ℤ)

-- the list is empty
abbrev pub is_nil : {X : Type 0} → List X → Bool
is_nil [] = true
is_nil (x ∷ xs) = false

-- v lies in the range
abbrev pub in_range : ℤ × ℤ → ℤ → Bool
in_range r v = int_le r.0 v && int_le v r.1

-- v is a value of the set
abbrev pub has : Ranges → ℤ → Bool
has [] v = false
has (r ∷ rs) v = in_range r v || has rs v

-- the ranges ascend from `low` to `top`, none is empty, and each begins at least two above the end
-- of the one before: no two of them overlap or touch
abbrev pub Ascends : ℤ → ℤ → Ranges → Type 0
Ascends low top [] = low ≤ℤ (top +ℤ pos 2)
Ascends low top (r ∷ rs) = (low ≤ℤ r.0) × (r.0 ≤ℤ r.1) × Ascends (r.1 +ℤ pos 2) top rs

-- the ranges are the list of a set of values of 64 bits with a sign; each such set has exactly one
-- such list
abbrev pub IsValid : Ranges → Type 0
IsValid rs = Ascends (negsuc 9223372036854775807) (pos 9223372036854775807) rs

-- the two sets have the same values
abbrev pub HaveSameValues : Ranges → Ranges → Type 0
HaveSameValues a b = (v : ℤ) → has a v ≡ has b v

-- the set has no value
abbrev pub HasNoValue : Ranges → Type 0
HasNoValue rs = (v : ℤ) → has rs v ≡ false

-- each value of the first set is one of the second
abbrev pub IsSubset : Ranges → Ranges → Type 0
IsSubset a b = (v : ℤ) → has a v ≡ true → has b v ≡ true

-- no value of the first set is one of the second
abbrev pub HaveNoCommonValue : Ranges → Ranges → Type 0
HaveNoCommonValue a b = (v : ℤ) → has a v ≡ true → has b v ≡ false

-- the least value
abbrev pub least_of : Ranges → Option ℤ
least_of [] = None
least_of (r ∷ rs) = Some r.0

-- the end of the last range, v where there is none
abbrev pub high_from : ℤ → Ranges → ℤ
high_from v [] = v
high_from v (r ∷ rs) = high_from r.1 rs

-- the greatest value
abbrev pub greatest_of : Ranges → Option ℤ
greatest_of [] = None
greatest_of (r ∷ rs) = Some (high_from r.1 rs)

-- v is a value, and none is below it
pub record IsLeast (rs : Ranges) (v : ℤ) : Type 0 where
  pub member : has rs v ≡ true
  pub none_below : (w : ℤ) → has rs w ≡ true → v ≤ℤ w

-- v is a value, and none is above it
pub record IsGreatest (rs : Ranges) (v : ℤ) : Type 0 where
  pub member : has rs v ≡ true
  pub none_above : (w : ℤ) → has rs w ≡ true → w ≤ℤ v

-- how many values there are
abbrev pub count_of : Ranges → ℕ
count_of [] = 0
count_of (r ∷ rs) = suc (unsigned_abs (r.1 -ℤ r.0)) + count_of rs
