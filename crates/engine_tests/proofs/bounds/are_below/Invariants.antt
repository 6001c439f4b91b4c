use Rattle.std.proofs.Common.{◌<◌, drop, All}
use Rattle.engine_tests.proofs.bounds.are_below.Given as goal

abbrev pub invariant-loop-x : goal.invariant-loop-x
invariant-loop-x l = All (λ x. x < l.count) (drop l.x-index l.vars) → All (λ x. x < l.count) l.vars
