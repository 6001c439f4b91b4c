use Rattle.std.proofs.Common.{◌≡◌, ◌++◌}
use Rattle.log_check.specs.Marks.{unmarked}
use Rattle.log_check.proofs.needed.push_unmarked.Given as goal

abbrev pub invariant-loop : goal.invariant-loop
invariant-loop l = l.marks.items ≡ l.initial.marks.items ++ unmarked l.counter
