use Rattle.branch_choice.specs.Walks.{IsWithoutHint}
use Rattle.branch_choice.proofs.orders.former.Given as goal

abbrev pub invariant-loop-x : goal.invariant-loop-x
invariant-loop-x l = IsWithoutHint l.boxes l.hints l.x l.undecided
