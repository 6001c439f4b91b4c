use Rattle.std.proofs.Common.{drop, All}
use Rattle.signed_clause.specs.Ranges.{IsValid}
use Rattle.test_search_checks.proofs.wider.are_sets.Given as goal

abbrev pub invariant-loop-s : goal.invariant-loop-s
invariant-loop-s l = All (λ s. IsValid s) (drop l.s-index l.sets) → All (λ s. IsValid s) l.sets
