use Rattle.std.proofs.Common.{take}
use Rattle.std.specs.List.{All}
use Rattle.log_check.specs.Soundness.{HasClause}
use Rattle.kept_clauses.proofs.forms.know_lines.Given as goal

abbrev pub invariant-loop-line : goal.invariant-loop-line
invariant-loop-line l = All (λ line. HasClause line) (take l.line-index l.lines)
