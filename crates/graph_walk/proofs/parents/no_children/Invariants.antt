use Rattle.std.proofs.Common.{◌≡◌, [], ℕ, length}
use Rattle.graph_walk.specs.Walk.{edges_at}
use Rattle.graph_walk.proofs.parents.no_children.Given as goal

abbrev pub invariant-loop-node : goal.invariant-loop-node
invariant-loop-node g l =
    record {
      size : length l.graph.items ≡ l._node;
      none : (q : ℕ) → edges_at l.graph.items q ≡ [];
    }
