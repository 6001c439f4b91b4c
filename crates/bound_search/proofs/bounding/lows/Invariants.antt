use Rattle.std.proofs.Common.{◌≡◌, ◌++◌, drop}
use Rattle.rule_law.specs.Singles.{least_values}
use Rattle.bound_search.proofs.bounding.lows.Given as goal

abbrev pub invariant-loop-set : goal.invariant-loop-set
invariant-loop-set l = l.out.items ++ least_values (drop l.set-index l.boxes) ≡ least_values l.boxes
