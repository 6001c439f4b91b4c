use Rattle.std.proofs.Common.{◌≡◌, []}
use Rattle.class_table.specs.Faults.{pointed}
use Rattle.class_table.specs.Scopes.{IsScope, RootsReached}
use Rattle.graph_walk.specs.Walk.{IsWalk}
use Rattle.class_table.proofs.attributes.visit_all.Given as goal

abbrev pub invariant-loop-class : goal.invariant-loop-class
invariant-loop-class l =
    record {
      walk : IsWalk l.family.graph.now l.walk.states.items l.walk.path.items l.walk.done;
      scope : IsScope l.family.classes.now (pointed l.family.decls.now) l.walk.states.items l.walk.path.items l.scope.names l.scope.counts.items;
      path : l.walk.path.items ≡ [];
      reached : RootsReached l.family.classes.now l.class l.walk.states.items;
    }
