-- Points of boxes. What a reader believes after this file: a constraint without a point in boxes
-- has no solution there.
use Rattle.std.specs.Prelude.{◌≡◌, ℕ, List, ℤ, true, false}
use Rattle.signed_clause.specs.Clauses.{Boxes}
use Rattle.ground_form.specs.declared.con.Con.{Con}
use Rattle.ground_form.specs.Meaning.{con_true}
use Rattle.ground_form.specs.Solutions.{IsPoint}
use Rattle.box_rules.specs.Refuted.{crowded}

-- more variables than some interval has numbers have a box within it
abbrev pub IsCrowdedSomewhere : List ℕ → Boxes → Type 0
IsCrowdedSomewhere xs boxes = (a : ℤ) × (b : ℤ) × (crowded a b xs boxes ≡ true)

-- at no point of the boxes is the constraint true
abbrev pub HasNoPoint : Con → Boxes → Type 0
HasNoPoint con boxes = (a : List ℤ) → IsPoint boxes a → con_true con a ≡ false
