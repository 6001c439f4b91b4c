-- What follows from a problem without a decision. What a reader believes after this file: every
-- solution lies in the boxes.
use Rattle.std.specs.Prelude.{◌≡◌, ℕ, ◌<◌, true, List, ℤ, length}
use Rattle.signed_clause.specs.Ranges.{has}
use Rattle.signed_clause.specs.Clauses.{Boxes, Literals, box_of, clause_true, IsClause, IsWithinBoxes}
use Rattle.ground_form.specs.declared.ground.Ground.{Ground}
use Rattle.ground_form.specs.Meaning.{value_of}
use Rattle.ground_form.specs.Solutions.{IsSolution}
use Rattle.rule_law.specs.Answers.{AreBoxesWithin}

abbrev pub HoldSolutions : Ground → Boxes → Type 0
HoldSolutions g boxes =
    (a : List ℤ) → IsSolution g a → (x : ℕ) → x < length boxes → has (box_of boxes x) (value_of a x)
    ≡ true

-- a box for each variable, within its domain and not empty; together they hold all solutions
pub record AreRootBoxes (g : Ground) (boxes : Boxes) : Type 0 where
  pub within : AreBoxesWithin g.domains boxes
  pub holds : HoldSolutions g boxes

-- a clause over the boxes that is true at every solution
pub record Follows (g : Ground) (boxes : Boxes) (clause : Literals) : Type 0 where
  pub named : IsWithinBoxes clause boxes
  pub form : IsClause clause
  pub holds : (a : List ℤ) → IsSolution g a → clause_true clause a ≡ true
