use Rattle.std.proofs.Common.{drop, All}
use Rattle.signed_clause.specs.Ranges.{IsSubset}
use Rattle.signed_clause.specs.Clauses.{box_of}
use Rattle.test_search_checks.proofs.within.are_literals_within.Given as goal

abbrev pub invariant-loop-l : goal.invariant-loop-l
invariant-loop-l l =
    All (λ x. IsSubset x.1 (box_of l.domains x.0)) (drop l.l-index l.literals) →
    All (λ x. IsSubset x.1 (box_of l.domains x.0)) l.literals
