use Rattle.std.proofs.Common.{ℕ, ◌<◌}
use Rattle.learn_clauses.specs.Walk.{clause_at}
use Rattle.learn_clauses.specs.Learnt.{IsWithinDomains}
use Rattle.test_search_checks.proofs.within.are_clauses_within.Given as goal

abbrev pub invariant-loop-k : goal.invariant-loop-k
invariant-loop-k l =
    (j : ℕ) → j < l.k → IsWithinDomains l.domains (clause_at l.clauses j)
