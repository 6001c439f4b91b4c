-- A sweep over the intervals that begin at one number.
use Rattle.std.specs.Prelude.{◌≡◌, ℕ, suc, ◌<◌, ◌≤◌, ◌⊎◌, true, List, ℤ, pos, ◌+ℤ◌, Option, Some, cond, ◌==◌, IfSome, int_le}
use Rattle.std.specs.List.{All}
use Rattle.signed_clause.specs.Clauses.{Boxes, box_of}
use Rattle.ground_form.specs.Bounds.{low_of}
use Rattle.box_rules.specs.Refuted.{count_in}
use Rattle.all_different_pruner.specs.Intervals.{is_outside, AreOutside}
use Rattle.all_different_pruner.specs.Counters.{reaches}

-- m is n, or a + m is one past the greatest number of 64 bits
abbrev pub ReachesEnd : ℤ → ℕ → ℕ → Type 0
ReachesEnd a m n = (m ≡ n) ⊎ (a +ℤ pos m ≡ pos 9223372036854775808)

-- a..a + d isn't crowded and, where it is full, keeps out the other boxes that begin at a or later
pub record IsFixpointBehind (a : ℤ) (d : ℕ) (xs : List ℕ) (boxes : Boxes) : Type 0 where
  pub few : count_in a (a +ℤ pos d) xs boxes ≤ suc d
  pub outside : count_in a (a +ℤ pos d) xs boxes ≡ suc d
      → All (λ x. int_le a (low_of (box_of boxes x)) ≡ true → is_outside a (a +ℤ pos d) (box_of boxes x)
      ≡ true) xs

-- that is so of the first d intervals from a on, and `full` is the greatest of them that is full
pub record ArePassed (a : ℤ) (d : ℕ) (full : Option ℕ) (xs : List ℕ) (boxes : Boxes) : Type 0 where
  pub fixpoint : (e : ℕ) → e < d → IsFixpointBehind a e xs boxes
  pub last : (e : ℕ) → e < d → count_in a (a +ℤ pos e) xs boxes ≡ suc e → reaches full e ≡ true
  pub is_full : IfSome full (λ e. (e < d) × (count_in a (a +ℤ pos e) xs boxes ≡ suc e))

-- the interval keeps all other boxes out, where there is one
abbrev pub IsKept : ℤ → Option ℕ → List ℕ → Boxes → Type 0
IsKept a full xs boxes = IfSome full (λ e. AreOutside a (a +ℤ pos e) xs boxes)

-- the greatest interval so far, of d + 1 numbers, within which n boxes lie, where it is full
abbrev pub newest : Option ℕ → ℕ → ℕ → Option ℕ
newest full d n = cond (n == suc d) (Some d) full
