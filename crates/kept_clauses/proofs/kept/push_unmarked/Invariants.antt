use Rattle.std.proofs.Common.{◌≡◌, ◌++◌, false, replicate}
use Rattle.kept_clauses.proofs.kept.push_unmarked.Given as goal

abbrev pub invariant-loop : goal.invariant-loop
invariant-loop l = l.marks.items ≡ l.initial.marks.items ++ replicate l.counter false
