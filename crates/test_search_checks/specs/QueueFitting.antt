-- A queue with its problem and boxes. What a reader believes after this file: when the three belong
-- together.
use Rattle.signed_clause.specs.Clauses.{Boxes}
use Rattle.ground_form.specs.declared.ground.Ground.{Ground}
use Rattle.ground_form.specs.WellMade.{IsWellMade}
use Rattle.rule_law.specs.Answers.{AreBoxesWithin}
use Rattle.prop_queue.specs.Work.{Work, IsOver, Fits}

-- the problem is well made, the queue is its, the boxes lie within its domains, and the queue fits
-- them
pub record IsFitting (g : Ground) (boxes : Boxes) (w : Work) : Type 0 where
  pub made : IsWellMade g
  pub over : IsOver g w
  pub within : AreBoxesWithin g.domains boxes
  pub fits : Fits g w boxes
