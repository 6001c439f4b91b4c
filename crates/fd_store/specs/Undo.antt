-- Levels that are dropped, and what was done last and is taken back.
use Rattle.std.specs.Prelude.{◌≡◌, ◌≢◌, ◌<◌, ◌+◌, ℕ, suc, true, cond, List, ◌∷◌, Option, Some, None, length, slice_set, nat_lt, []}
use Rattle.signed_clause.specs.Ranges.{IsValid, IsSubset}
use Rattle.signed_clause.specs.SetAlgebra.{is_within}
use Rattle.signed_clause.specs.Clauses.{Boxes, box_of, AreValid}
use Rattle.fd_store.specs.Levels.{Entry, Level, Stack}

-- the levels up to k are left, of a last level and those below it
abbrev pub dropped_from : ℕ → Level → List Level → Stack
dropped_from k top [] = record { top = top; below = [] }
dropped_from k top (l ∷ ls) =
    cond (nat_lt k (suc (length ls))) (dropped_from k l ls) (record { top = top; below = l ∷ ls })

-- the levels up to k are left
abbrev pub dropped : ℕ → Stack → Stack
dropped k s = dropped_from k s.top s.below

abbrev pub popped : Level → List Level → Stack
popped top [] = record { top = top; below = [] }
popped top (l ∷ ls) = record { top = l; below = ls }

-- a decision goes with its level, and a pruning alone
abbrev pub back_by : Option ℕ → Entry → List Entry → Stack → Stack
back_by None e es s = popped s.top s.below
back_by (Some j) e es s =
    record {
      top =
          record { first = s.top.first; now = slice_set s.top.now e.var e.before; entries = es };
      below = s.below;
    }

abbrev pub back_from : List Entry → Stack → Stack
back_from [] s = s
back_from (e ∷ es) s = back_by e.from e es s

abbrev pub taken_back : Stack → Stack
taken_back s = back_from s.top.entries s

-- how much was done in all levels
abbrev pub entries_below : List Level → ℕ
entries_below [] = 0
entries_below (l ∷ ls) = length l.entries + entries_below ls

abbrev pub entries_in : Stack → ℕ
entries_in s = length s.top.entries + entries_below s.below

-- the box of x is as it was or wider, and the others are the same
pub record IsWiderAt (x : ℕ) (before after : Boxes) : Type 0 where
  pub size : length after ≡ length before
  pub exists : x < length before
  pub others : (y : ℕ) → y ≢ x → box_of after y ≡ box_of before y
  pub before_valid : IsValid (box_of before x)
  pub after_valid : IsValid (box_of after x)
  pub within : is_within (box_of before x) (box_of after x) ≡ true

-- valid boxes, each of which has the values of the other's
pub record AreWider (small large : Boxes) : Type 0 where
  pub small_valid : AreValid small
  pub large_valid : AreValid large
  pub within : (x : ℕ) → IsSubset (box_of small x) (box_of large x)
