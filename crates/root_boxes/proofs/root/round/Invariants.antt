use Rattle.root_boxes.specs.Following.{AreRootBoxes}
use Rattle.root_boxes.proofs.root.round.Given as goal

abbrev pub invariant-loop-k : goal.invariant-loop-k
invariant-loop-k l = AreRootBoxes l.g l.root.boxes.items
