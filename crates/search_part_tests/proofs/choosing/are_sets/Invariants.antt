use Rattle.std.proofs.Common.{drop, All}
use Rattle.signed_clause.specs.Ranges.{IsValid}
use Rattle.search_part_tests.proofs.choosing.are_sets.Given as goal

abbrev pub invariant-loop-s : goal.invariant-loop-s
invariant-loop-s l =
    All (λ s. IsValid s) (drop l.s-index l.boxes) → All (λ s. IsValid s) l.boxes
