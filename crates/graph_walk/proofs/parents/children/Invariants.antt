use Rattle.graph_walk.specs.Children.{IsChildren}
use Rattle.graph_walk.proofs.parents.children.Given as goal

abbrev pub invariant-loop-node : goal.invariant-loop-node
invariant-loop-node g l =
    IsChildren (g.P.Parents.up l.family) (g.P.Parents.size l.family) l.node l.graph.items
