use Rattle.graph_walk.specs.Walk.{IsWalk, IsNew, state_at, measure}
use Rattle.graph_walk.specs.Cycles.{NewStays}
use Rattle.graph_walk.proofs.cycle.walk_from.Given as goal

abbrev pub invariant-loop-walk : goal.invariant-loop-walk
invariant-loop-walk l =
    record {
      walk : IsWalk l.graph l.walk.states.items l.walk.path.items l.walk.done;
      stays : NewStays l.fn.walk.states.items l.walk.states.items;
      reached : IsNew (state_at l.walk.states.items l.root) → ⊥;
    }

abbrev pub decreases-loop-walk : goal.decreases-loop-walk
decreases-loop-walk l = measure l.walk.states.items
