use Rattle.std.proofs.Common.{◌≡◌, drop}
use Rattle.test_well_made.specs.Numbered.{numbered}
use Rattle.test_well_made.proofs.constraint.are_numbered.Given as goal

abbrev pub invariant-loop-i : goal.invariant-loop-i
invariant-loop-i l = numbered l.i (drop l.i l.items) ≡ numbered 0 l.items
