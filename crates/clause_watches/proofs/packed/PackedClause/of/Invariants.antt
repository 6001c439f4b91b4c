use Rattle.clause_watches.proofs.PackLaws.{IsPackedTo}
use Rattle.clause_watches.proofs.packed.PackedClause.of.Given as goal

abbrev pub invariant-loop-l : goal.invariant-loop-l
invariant-loop-l l = IsPackedTo l.leasts l.lits l.literals.items l.l-index
