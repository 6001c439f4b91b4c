-- What a propagator may answer. What a reader believes after this file: a clause that is answered
-- follows from the constraint and takes something away, or shows that nothing is left; and no
-- answer means that the constraint has nothing to say.
use Rattle.std.specs.Prelude.{◌≡◌, ℕ, ◌<◌, true, false, ◌||◌, Option, Some, None, is_some, length}
use Rattle.std.specs.List.{All}
use Rattle.signed_clause.specs.Ranges.{is_nil, IsValid}
use Rattle.signed_clause.specs.SetAlgebra.{is_within}
use Rattle.signed_clause.specs.Clauses.{Boxes, Literals, box_of, IsClause, IsWithinBoxes, false_in, unit_of}
use Rattle.ground_form.specs.declared.con.Con.{Con}
use Rattle.box_rules.specs.Justified.{justified}
use Rattle.box_rules.specs.Quiet.{quiet}

-- each variable has a box within its domain, and none is empty
pub record AreBoxesWithin (domains boxes : Boxes) : Type 0 where
  pub size : length boxes ≡ length domains
  pub within : (x : ℕ) → x < length boxes → is_within (box_of boxes x) (box_of domains x) ≡ true
  pub some : (x : ℕ) → x < length boxes → is_nil (box_of boxes x) ≡ false
  pub sets : All (λ s. IsValid s) boxes

-- the constraint justifies the clause, which is false in the boxes or unit
pub record IsPruning (con : Con) (domains boxes : Boxes) (clause : Literals) : Type 0 where
  pub named : IsWithinBoxes clause boxes
  pub form : IsClause clause
  pub follows : justified con domains clause ≡ true
  pub acts : (false_in boxes clause || is_some (unit_of boxes clause)) ≡ true

-- a pruning, or nothing where the constraint is quiet
abbrev pub IsAnswer : Con → Boxes → Boxes → Option Literals → Type 0
IsAnswer con domains boxes None = quiet con boxes ≡ true
IsAnswer con domains boxes (Some clause) = IsPruning con domains boxes clause
