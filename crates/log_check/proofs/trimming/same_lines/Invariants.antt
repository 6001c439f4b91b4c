use Rattle.std.proofs.Common.{◌≡◌, ◌++◌, drop}
use Rattle.log_check.proofs.trimming.same_lines.Given as goal

abbrev pub invariant-loop-line : goal.invariant-loop-line
invariant-loop-line l = l.kept.items ++ drop l.line-index l.lines ≡ l.lines
