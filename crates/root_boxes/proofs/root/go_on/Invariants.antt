use Rattle.root_boxes.specs.Following.{AreRootBoxes}
use Rattle.root_boxes.proofs.root.go_on.Given as goal

abbrev pub invariant-loop : goal.invariant-loop
invariant-loop l = AreRootBoxes l.g l.root.boxes.items
