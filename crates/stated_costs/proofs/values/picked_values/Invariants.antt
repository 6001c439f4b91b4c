use Rattle.std.proofs.Common.{drop}
use Rattle.stated_costs.proofs.ValueLaws.{ArePicked}
use Rattle.stated_costs.proofs.values.picked_values.Given as goal

abbrev pub invariant-loop-t : goal.invariant-loop-t
invariant-loop-t l = ArePicked l.maker l.at l.items (drop l.t-index l.items) l.values
