use Rattle.std.proofs.Common.{◌-◌, length}
use Rattle.rule_law.proofs.UpTo.{AreParts}
use Rattle.rule_law.proofs.within.are_boxes_within.Given as goal

abbrev pub invariant-loop-x : goal.invariant-loop-x
invariant-loop-x l = AreParts l.domains l.boxes l.x

abbrev pub decreases-loop-x : goal.decreases-loop-x
decreases-loop-x l = length l.boxes - l.x
