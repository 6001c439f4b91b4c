-- The watches of each variable. What a reader believes after this file: what a watch says of its
-- clause's set is true, and how a walk along a row leaves the rests.
use Rattle.std.specs.Prelude.{◌≡◌, ℕ, ◌<◌, Bool, true, false, not, cond, ◌||◌, ◌==◌, List, ℤ, pos, ◌+ℤ◌, take}
use Rattle.std.specs.Int.{bit_at}
use Rattle.std.specs.List.{All, list_any}
use Rattle.signed_clause.specs.Ranges.{Ranges, has}
use Rattle.signed_clause.specs.SetAlgebra.{is_disjoint}
use Rattle.signed_clause.specs.Clauses.{Boxes, Literals}
use Rattle.clause_watches.specs.declared.rest.Rest.{Rest}
use Rattle.clause_watches.specs.declared.rest.Rest.TheVariants.{Listed, Half, On, Held}
use Rattle.clause_watches.specs.declared.watch.Watch.{Watch}
use Rattle.clause_watches.specs.declared.watch.Site.{Site}
use Rattle.clause_watches.specs.declared.watch.Witness.{Witness}
use Rattle.clause_watches.specs.declared.watch.Witness.TheVariants.{Mask, Value}
use Rattle.clause_watches.specs.Watching.{rest_of, without, holds, IsKnown}
use Rattle.clause_watches.specs.Marks.{is_marked}

-- ---- rests and variables

-- the rest names the variable
abbrev pub names : Rest → ℕ → Bool
names Listed x = false
names (Half y) x = y == x
names (On y z) x = y == x || z == x
names (Held y) x = y == x

-- two variables that are named are different
abbrev pub differ : Rest → Bool
differ Listed = true
differ (Half y) = true
differ (On y z) = not (y == z)
differ (Held y) = true

-- what is seen of a rest where the boxes of the marked variables may have become narrower
abbrev pub seen : List Bool → Rest → Rest
seen changed r = without (is_marked changed) r

-- ---- watches

-- each bit that is set stands for a value of the set, counted from the least one on
abbrev pub IsMaskOf : ℤ → Ranges → ℕ → Type 0
IsMaskOf least set mask = (j : ℕ) → bit_at mask j ≡ 1 → has set (least +ℤ pos j) ≡ true

-- each value of the set that lies among the 64 from the least one on has its bit
abbrev pub IsWholeMaskOf : ℤ → Ranges → ℕ → Type 0
IsWholeMaskOf least set mask =
    (j : ℕ) → j < 64 → has set (least +ℤ pos j) ≡ true → bit_at mask j ≡ 1

-- the value has its bit
pub record HasBit (least : ℤ) (mask : ℕ) (v : ℤ) : Type 0 where
  pub bit : ℕ
  pub below : bit < 64
  pub value : v ≡ least +ℤ pos bit
  pub on : bit_at mask bit ≡ 1

-- each value of the set has its bit
abbrev pub HasAllBits : ℤ → Ranges → ℕ → Type 0
HasAllBits least set mask = (v : ℤ) → has set v ≡ true → HasBit least mask v

-- what a witness says of a set is true
abbrev pub IsTrueOf : ℤ → Ranges → Witness → Type 0
IsTrueOf least set (Mask mask) = IsMaskOf least set mask
IsTrueOf least set (Value v) = has set v ≡ true

-- each watch is right, where `sets` gives the set of each clause for the row's variable
abbrev pub AreRight : ℤ → (ℕ → Ranges) → List Watch → Type 0
AreRight least sets row = All (λ w. IsTrueOf least (sets w.clause) w.witness) row

-- each watch is of one of the first n clauses
abbrev pub AreBelow : ℕ → List Watch → Type 0
AreBelow n row = All (λ w. w.clause < n) row

-- the clause stands in the row
abbrev pub has_watch : ℕ → List Watch → Bool
has_watch i row = list_any (λ w. w.clause == i) row

-- ---- a walk along a row

-- what is left of a rest once x is named no longer
abbrev pub forgotten : ℕ → Rest → Rest
forgotten x Listed = Listed
forgotten x (Half y) = cond (x == y) Listed (Half y)
forgotten x (On y z) =
    cond (x == y) (cond (x == z) Listed (Half z)) (cond (x == z) (Half y) (On y z))
forgotten x (Held y) = cond (x == y) Listed (Held y)

-- a rest may become the other: it names no more, and what was seen of it where x may have changed
-- tells what is seen then
pub record IsStep (x : ℕ) (before after : Rest) : Type 0 where
  pub named : (y : ℕ) → names after y ≡ true → names before y ≡ true
  pub known : (boxes : Boxes) (c : Literals) (changed : List Bool) → is_marked changed x ≡ true →
      IsKnown boxes c (seen changed before) → IsKnown boxes c (seen changed after)
  pub unheld : (y : ℕ) → holds after y ≡ true → holds before y ≡ true
  pub apart : differ before ≡ true → differ after ≡ true

-- a walk has come to the k-th watch
pub record IsWalked (sets : ℕ → Ranges) (at : Ranges) (s : Site) (before rests : List Rest)
    (row : List Watch) (k : ℕ) : Type 0 where
  pub steps : (i : ℕ) → IsStep s.variable (rest_of before i) (rest_of rests i)
  pub linked : (i : ℕ) → names (rest_of rests i) s.variable ≡ true → has_watch i row ≡ true
  pub right : AreRight s.least sets row
  pub met : All (λ w. names (rest_of rests w.clause) s.variable ≡ true
      → is_disjoint (sets w.clause) at ≡ false) (take k row)

-- ---- boxes become wider

-- of a clause that rests by x alone, only that x meets is kept
abbrev pub freed : ℕ → Rest → Rest
freed x r = cond (holds r x) (Half x) r
