use Rattle.graph_walk.specs.Cycles.{NewStays}
use Rattle.class_table.specs.Faults.{pointed}
use Rattle.class_table.specs.Scopes.{IsScope}
use Rattle.graph_walk.specs.Walk.{IsWalk, IsNew, state_at, measure}
use Rattle.class_table.proofs.attributes.visit_from.Given as goal

abbrev pub invariant-steps : goal.invariant-steps
invariant-steps l =
    record {
      walk : IsWalk l.family.graph.now l.walk.states.items l.walk.path.items l.walk.done;
      scope : IsScope l.family.classes.now (pointed l.family.decls.now) l.walk.states.items l.walk.path.items l.scope.names l.scope.counts.items;
      stays : NewStays l.fn.walk.states.items l.walk.states.items;
      reached : IsNew (state_at l.walk.states.items l.root) → ⊥;
    }

abbrev pub decreases-steps : goal.decreases-steps
decreases-steps l = measure l.walk.states.items
