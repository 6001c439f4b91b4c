use Rattle.graph_walk.specs.Cycles.{IsScanned}
use Rattle.graph_walk.proofs.cycle.place_on_cycle.Given as goal

abbrev pub invariant-loop-at : goal.invariant-loop-at
invariant-loop-at l = IsScanned l.graph l.walk.states.items l.walk.path.items l.to l.at

abbrev pub decreases-loop-at : goal.decreases-loop-at
decreases-loop-at l = l.at
