use Rattle.std.proofs.Common.{◌≡◌, drop}
use Rattle.element_prop.specs.Elements.{without_boxes}
use Rattle.element_prop.proofs.element.without_boxes.Given as goal

abbrev pub invariant-loop-t : goal.invariant-loop-t
invariant-loop-t l = without_boxes (drop l.t-index l.items) l.index l.boxes l.rest ≡ without_boxes l.items l.index l.boxes l.set
