use Rattle.std.proofs.Common.{◌<◌, drop, length, All}
use Rattle.test_search_checks.proofs.within.has_boxes.Given as goal

abbrev pub invariant-loop-l : goal.invariant-loop-l
invariant-loop-l l =
    All (λ x. x.0 < length l.boxes) (drop l.l-index l.literals) →
    All (λ x. x.0 < length l.boxes) l.literals
