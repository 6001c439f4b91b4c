use Rattle.std.proofs.Common.{◌≡◌, drop}
use Rattle.signed_clause.specs.Clauses.{clause_true}
use Rattle.ground_form.proofs.truth.clause_holds.Given as goal

abbrev pub invariant-loop-l : goal.invariant-loop-l
invariant-loop-l l = clause_true (drop l.l-index l.lits) l.values ≡ clause_true l.lits l.values
