-- Definitions in their places. What a reader believes after this file: what is asked of the
-- constraint of a number, where the first constraints define the variables that aren't searched.
use Rattle.std.specs.Prelude.{◌≡◌, ℕ, ◌+◌, ◌<◌, ◌≤◌, List, Some, slice_get}
use Rattle.std.specs.List.{All}
use Rattle.ground_form.specs.declared.con.Con.{Con}
use Rattle.ground_form.specs.WellMade.{defined_by, inputs_of}

-- the constraint defines x by variables before it
pub record DoesDefine (x : ℕ) (con : Con) : Type 0 where
  pub defines : defined_by con ≡ Some x
  pub inputs : All (λ y. y < x) (inputs_of con)

-- the constraint of a number defines the variable of its place, where it is one of the first
-- `count`; else it defines none from `search` on
pub record IsPlaced (search count number : ℕ) (con : Con) : Type 0 where
  pub defining : number < count → DoesDefine (search + number) con
  pub other : count ≤ number → (x : ℕ) → defined_by con ≡ Some x → x < search

-- the first constraints define `count` variables from `search` on, and the others none of them
abbrev pub ArePlaced : ℕ → ℕ → List Con → Type 0
ArePlaced search count cons =
    (k : ℕ) (con : Con) → slice_get cons k ≡ Some con → IsPlaced search count k con
