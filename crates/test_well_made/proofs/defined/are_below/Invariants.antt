use Rattle.std.proofs.Common.{◌<◌, ◌-◌, length, drop, All}
use Rattle.test_well_made.proofs.defined.are_below.Given as goal

abbrev pub invariant-loop-i : goal.invariant-loop-i
invariant-loop-i l = All (λ y. y < l.x) (drop l.i l.vars) → All (λ y. y < l.x) (drop 1 l.vars)

abbrev pub decreases-loop-i : goal.decreases-loop-i
decreases-loop-i l = length l.vars - l.i
