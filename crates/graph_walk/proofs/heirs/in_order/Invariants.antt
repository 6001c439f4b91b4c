use Rattle.std.proofs.Common.{◌≡◌, length}
use Rattle.graph_walk.proofs.heirs.in_order.Given as goal

abbrev pub invariant-loop-node : goal.invariant-loop-node
invariant-loop-node l = length l.nodes.items ≡ l.count
