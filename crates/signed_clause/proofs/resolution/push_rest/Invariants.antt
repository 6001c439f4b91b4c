use Rattle.std.proofs.Common.{◌≡◌, ◌++◌, ◌-◌, drop, length}
use Rattle.signed_clause.proofs.resolution.push_rest.Given as goal

abbrev pub invariant-loop-k : goal.invariant-loop-k
invariant-loop-k l = l.out.items ++ drop l.k l.lits ≡ l.initial.out.items ++ drop l.fn.from l.lits

abbrev pub decreases-loop-k : goal.decreases-loop-k
decreases-loop-k l = length l.lits - l.k
