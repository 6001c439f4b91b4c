use Rattle.std.proofs.Common.{◌<◌, drop, All}
use Rattle.test_search_checks.proofs.wider.are_below.Given as goal

abbrev pub invariant-loop-l : goal.invariant-loop-l
invariant-loop-l l =
    All (λ x. x.0 < l.count) (drop l.l-index l.literals) → All (λ x. x.0 < l.count) l.literals
