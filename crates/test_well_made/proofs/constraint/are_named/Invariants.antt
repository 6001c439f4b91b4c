use Rattle.std.proofs.Common.{◌<◌, drop, length, All}
use Rattle.test_well_made.proofs.constraint.are_named.Given as goal

abbrev pub invariant-loop-x : goal.invariant-loop-x
invariant-loop-x l = All (λ x. x < length l.domains) (drop l.x-index l.vars) → All (λ x. x < length l.domains) l.vars
