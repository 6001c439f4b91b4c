-- A clause as a table of sets by variable, empty where the clause says nothing. What a reader
-- believes after this file: which literals such a table lists.
use Rattle.std.specs.Prelude.{◌≡◌, ℕ, suc, ◌<◌, false, cond, List, [], ◌∷◌, ◌==◌, length, slice_set}
use Rattle.std.specs.List.{All, Contains}
use Rattle.signed_clause.specs.Ranges.{Ranges, is_nil}
use Rattle.signed_clause.specs.SetAlgebra.{meet, join}
use Rattle.signed_clause.specs.Clauses.{Boxes, Literals, box_of, AreValid}

-- the literals of the sets, the first of which is that of the variable n
abbrev pub listed : ℕ → Boxes → Literals
listed n [] = []
listed n (s ∷ sets) = cond (is_nil s) (listed (suc n) sets) ((n, s) ∷ listed (suc n) sets)

-- the literal of x with the set, nothing where that is empty
abbrev pub literal_of : ℕ → Ranges → Literals
literal_of x s = cond (is_nil s) [] ((x, s) ∷ [])

-- ---- what a table keeps

-- each set is empty
abbrev pub AreEmpty : Boxes → Type 0
AreEmpty sets = (x : ℕ) → box_of sets x ≡ []

-- each variable whose set isn't empty stands in the list
abbrev pub AreNoted : Boxes → List ℕ → Type 0
AreNoted sets used = (x : ℕ) → is_nil (box_of sets x) ≡ false → Contains used x

-- the sets of a table, with its list of used variables
pub record IsTable (sets : Boxes) (used : List ℕ) : Type 0 where
  pub valid : AreValid sets
  pub within : All (λ x. x < length sets) used
  pub noted : AreNoted sets used

-- ---- what is done to it

-- the table once the literals stand in it
abbrev pub loaded : Boxes → Literals → Boxes
loaded sets [] = sets
loaded sets (m ∷ b) = loaded (slice_set sets m.0 m.1) b

-- what two sets of the variable y leave in a resolution on x: of x the meet, of another variable
-- the join
abbrev pub both_sets : ℕ → ℕ → Ranges → Ranges → Ranges
both_sets x y s t = cond (y == x) (meet s t) (join s t)

-- the table once the literals are taken in, one by one, in a resolution on x
abbrev pub taken_in : ℕ → Boxes → Literals → Boxes
taken_in x sets [] = sets
taken_in x sets (m ∷ b) = taken_in x (slice_set sets m.0 (both_sets x m.0 (box_of sets m.0) m.1)) b
