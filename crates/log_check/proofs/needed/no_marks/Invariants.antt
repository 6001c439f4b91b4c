use Rattle.std.proofs.Common.{◌≡◌, ◌++◌, drop}
use Rattle.log_check.specs.Marks.{clauses_in, unmarked}
use Rattle.log_check.proofs.needed.no_marks.Given as goal

abbrev pub invariant-loop-line : goal.invariant-loop-line
invariant-loop-line l = l.marks.items ++ unmarked (clauses_in l.g (drop l.line-index l.lines)) ≡ unmarked (clauses_in l.g l.lines)
