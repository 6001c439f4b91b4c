use Rattle.std.proofs.Common.{◌≡◌, drop}
use Rattle.signed_clause.specs.Ranges.{has}
use Rattle.element_prop.proofs.offers.reach_in.Given as goal

abbrev pub invariant-loop-r : goal.invariant-loop-r
invariant-loop-r l = has (drop l.r-index l.set) l.at.value ≡ has l.set l.at.value
