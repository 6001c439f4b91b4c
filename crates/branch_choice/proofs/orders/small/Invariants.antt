use Rattle.branch_choice.specs.Walks.{IsSmallestBelow}
use Rattle.branch_choice.proofs.orders.small.Given as goal

abbrev pub invariant-loop-x : goal.invariant-loop-x
invariant-loop-x l = IsSmallestBelow l.boxes l.x l.smallest
