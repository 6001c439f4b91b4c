use Rattle.std.proofs.Common.{◌≡◌, length}
use Rattle.graph_walk.proofs.heirs.descents_of.Given as goal

abbrev pub invariant-loop-i : goal.invariant-loop-i
invariant-loop-i g l = length l.descents.items ≡ g.P.Parents.size l.family
