use Rattle.root_boxes.specs.Following.{AreRootBoxes}
use Rattle.root_boxes.proofs.root.settle.Given as goal

abbrev pub invariant-loop-n : goal.invariant-loop-n
invariant-loop-n l = AreRootBoxes l.g l.boxes.items
