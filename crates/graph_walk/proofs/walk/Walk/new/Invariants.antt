use Rattle.std.proofs.Common.{◌≡◌, ◌++◌, map, drop}
use Rattle.graph_walk.specs.Walk.{fresh}
use Rattle.graph_walk.proofs.walk.Walk.new.Given as goal

-- with what is left the states are those of all nodes
abbrev pub invariant-loop-edges : goal.invariant-loop-edges
invariant-loop-edges l = l.states.items ++ map fresh (drop l.edges-index l.graph) ≡ map fresh l.graph
