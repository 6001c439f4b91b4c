use Rattle.stated_costs.proofs.SumLaws.{IsBelowBut}
use Rattle.stated_costs.proofs.sums.is_below.Given as goal

abbrev pub invariant-loop-at : goal.invariant-loop-at
invariant-loop-at l = IsBelowBut l.maker l.x l.left l.f
