use Rattle.std.proofs.Common.{drop}
use Rattle.stated_costs.proofs.SumLaws.{IsMostFrom}
use Rattle.stated_costs.proofs.sums.most_sum.Given as goal

abbrev pub invariant-loop-t : goal.invariant-loop-t
invariant-loop-t l = IsMostFrom l.maker l.x l.at l.terms (drop l.t-index l.terms) l.sum.value
