use Rattle.std.proofs.Common.{◌≡◌, ◌++◌, ◌+◌, ◌-◌, drop, length}
use Rattle.signed_clause.specs.Clauses.{resolvent}
use Rattle.signed_clause.proofs.resolution.resolve_literals.Given as goal

abbrev pub invariant-loop-i : goal.invariant-loop-i
invariant-loop-i l = l.out.items ++ resolvent l.x (drop l.i l.a) (drop l.j l.b) ≡ resolvent l.x l.a l.b

abbrev pub decreases-loop-i : goal.decreases-loop-i
decreases-loop-i l = (length l.a + length l.b) - (l.i + l.j)
