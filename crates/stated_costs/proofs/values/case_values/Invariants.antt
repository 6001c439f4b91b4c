use Rattle.stated_costs.specs.Values.{AreValuesWhere}
use Rattle.stated_costs.proofs.values.case_values.Given as goal

abbrev pub invariant-loop-p : goal.invariant-loop-p
invariant-loop-p l = AreValuesWhere l.maker l.x l.at l.y l.values
