use Rattle.std.proofs.Common.{◌≡◌, ◌++◌, None, drop}
use Rattle.rule_law.specs.Repeats.{doubles_after}
use Rattle.rule_law.proofs.repeats.doubles.Given as goal

abbrev pub invariant-loop-x : goal.invariant-loop-x
invariant-loop-x l = l.found.items ++ doubles_after l.last (drop l.x-index l.sorted) ≡ doubles_after None l.sorted
