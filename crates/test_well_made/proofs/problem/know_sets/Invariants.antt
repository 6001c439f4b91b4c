use Rattle.std.proofs.Common.{drop, All}
use Rattle.signed_clause.specs.Ranges.{IsValid}
use Rattle.test_well_made.proofs.problem.know_sets.Given as goal

abbrev pub invariant-loop-set : goal.invariant-loop-set
invariant-loop-set l = All (λ s. IsValid s) (drop l.set-index l.sets) → All (λ s. IsValid s) l.sets
