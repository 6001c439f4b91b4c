-- Worlds of a ground problem in the making, and how it grows. What a reader believes after this
-- file: what is said of every world of a problem is said of every world of one that it grows to,
-- and what was added says exactly this of each world.
use Rattle.std.specs.Prelude.{◌≡◌, ◌↔◌, ℕ, ◌+◌, ◌-◌, ◌^◌, ◌<◌, ◌≤◌, Bool, true, false, List, [], ◌++◌, ℤ, pos, length, Contains}
use Rattle.std.specs.List.{All}
use Rattle.signed_clause.specs.Ranges.{Ranges, has, is_nil}
use Rattle.signed_clause.specs.Clauses.{Boxes, box_of}
use Rattle.ground_form.specs.declared.con.Con.{Con}
use Rattle.ground_form.specs.declared.ground.Ground.{Ground}
use Rattle.ground_form.specs.Meaning.{value_of, bit}
use Rattle.ground_form.specs.Bounds.{low_of, high_of}
use Rattle.ground_form.specs.StandsFor.{IsDefinition}
use Rattle.ground_build.specs.Growing.{IsOnlyExtension, AreTrue, AreDefined, IsFlag}

-- ---- worlds

-- each variable's value lies in its box; there may be more values than boxes
abbrev pub IsInBoxes : Boxes → List ℤ → Type 0
IsInBoxes boxes a = (x : ℕ) → x < length boxes → has (box_of boxes x) (value_of a x) ≡ true

-- values that lie in the boxes and make the definitions true: at least one for each searched
-- variable, and maybe more than there are variables
pub record IsWorld (g : Ground) (a : List ℤ) : Type 0 where
  pub long : g.search ≤ length a
  pub within : IsInBoxes g.domains a
  pub defined : AreDefined g a

-- all constraints are true
abbrev pub AllHold : Ground → List ℤ → Type 0
AllHold g a = AreTrue g.cons a

-- the known variables have their values: those that constraints fix, where constraints are made
-- ground, and none where goals are
abbrev pub AreKnown : List (ℕ × ℤ) → List ℤ → Type 0
AreKnown known a = All (λ k. value_of a k.0 ≡ k.1) known

-- ---- growth

-- the old problem's variables and constraints stand first in the new one, and each configuration
-- with one extension has one still: the same, with values behind
pub record Grows (old new : Ground) : Type 0 where
  pub search : new.search ≡ old.search
  pub more : Boxes
  pub domains : new.domains ≡ old.domains ++ more
  pub added : List Con
  pub cons : new.cons ≡ old.cons ++ added
  pub keeps : (t a : List ℤ) → IsOnlyExtension old t a → (b : List ℤ)
      × IsOnlyExtension new t (a ++ b)

-- what was added says this in every world in which the known variables have their values, and no
-- more
pub record Adds (known : List (ℕ × ℤ)) (old new : Ground) (says : List ℤ → Bool) : Type 0 where
  pub grows : Grows old new
  pub holds : (a : List ℤ) → IsWorld new a → AreKnown known a → AllHold new a
      ↔ (AllHold old a × (says a ≡ true))

-- only definitions were added, and what follows from what stood
abbrev pub Defines : Ground → Ground → Type 0
Defines old new = Adds [] old new (λ a. true)

-- the definition of x stands in the problem, whoever made it
pub record HasDefinition (g : Ground) (x : ℕ) (con : Con) : Type 0 where
  pub exists : x < length g.domains
  pub definition : IsDefinition g.search con
  pub has : Contains g.cons con

-- f is a flag, and in every world it is this truth
pub record IsFlagOf (g : Ground) (f : ℕ) (says : List ℤ → Bool) : Type 0 where
  pub exists : f < length g.domains
  pub flag : IsFlag g f
  pub value : (a : List ℤ) → IsWorld g a → value_of a f ≡ bit (says a)

-- x has a box from the least to the greatest, and in every world it is this value
pub record IsVariableOf (g : Ground) (x : ℕ) (least greatest : ℤ) (says : List ℤ → ℤ) : Type 0 where
  pub exists : x < length g.domains
  pub low : low_of (box_of g.domains x) ≡ least
  pub high : high_of (box_of g.domains x) ≡ greatest
  pub value : (a : List ℤ) → IsWorld g a → value_of a x ≡ says a

-- x has this box, and in every world it is the variable of the item whose value the index has
pub record IsPickOf (g : Ground) (x : ℕ) (values : Ranges) (index : ℕ) (items : List (ℤ × ℕ)) : Type 0 where
  pub exists : x < length g.domains
  pub box : box_of g.domains x ≡ values
  pub value : (a : List ℤ) → IsWorld g a → All (λ t. value_of a index ≡ t.0 → value_of a x
      ≡ value_of a t.1) items

-- x has this box, and in every world it is the item where the flag is 1, and 0 where that is 0
pub record IsItemWhere (g : Ground) (x : ℕ) (values : Ranges) (flag item : ℕ) : Type 0 where
  pub exists : x < length g.domains
  pub box : box_of g.domains x ≡ values
  pub one : (a : List ℤ) → IsWorld g a → value_of a flag ≡ pos 1 → value_of a x ≡ value_of a item
  pub nought : (a : List ℤ) → IsWorld g a → value_of a flag ≡ pos 0 → value_of a x ≡ pos 0

-- no box is empty
abbrev pub AreSome : Boxes → Type 0
AreSome boxes = All (λ d. is_nil d ≡ false) boxes

-- ---- how much was added

-- at most n variables, and at most n constraints, were added
pub record IsFew (n : ℕ) (old new : Ground) : Type 0 where
  pub variables : length new.domains ≤ length old.domains + n
  pub constraints : length new.cons ≤ length old.cons + n

-- n more of each can be numbered
pub record HasRoomFor (n : ℕ) (g : Ground) : Type 0 where
  pub variables : length g.domains + n ≤ 2 ^ 32 - 1
  pub constraints : length g.cons + n ≤ 2 ^ 32 - 1
