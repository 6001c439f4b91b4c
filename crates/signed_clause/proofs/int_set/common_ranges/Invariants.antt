use Rattle.std.proofs.Common.{◌≡◌, ◌++◌, ◌+◌, ◌-◌, drop, length}
use Rattle.signed_clause.specs.SetAlgebra.{meet}
use Rattle.signed_clause.proofs.int_set.common_ranges.Given as goal

abbrev pub invariant-loop-i : goal.invariant-loop-i
invariant-loop-i l = l.out.items ++ meet (drop l.i l.a) (drop l.j l.b) ≡ meet l.a l.b

abbrev pub decreases-loop-i : goal.decreases-loop-i
decreases-loop-i l = (length l.a + length l.b) - (l.i + l.j)
