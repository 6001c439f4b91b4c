use Rattle.std.proofs.Common.{◌≡◌, drop}
use Rattle.ground_form.specs.Meaning.{clause_vars}
use Rattle.log_form.specs.Acceptance.{vars_below}
use Rattle.kept_clauses.proofs.kept.are_below.Given as goal

abbrev pub invariant-loop-l : goal.invariant-loop-l
invariant-loop-l l =
    vars_below l.n (clause_vars (drop l.l-index l.literals))
    ≡ vars_below l.n (clause_vars l.literals)
