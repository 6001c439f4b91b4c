use Rattle.branch_choice.specs.Picks.{AreAllSingle}
use Rattle.branch_choice.proofs.orders.first.Given as goal

abbrev pub invariant-loop-var : goal.invariant-loop-var
invariant-loop-var l = AreAllSingle l.boxes l.var
