use Rattle.std.proofs.Common.{take}
use Rattle.std.specs.List.{All}
use Rattle.run_law.specs.Lines.{HasSets}
use Rattle.run_law.proofs.known.know_lines.Given as goal

abbrev pub invariant-loop-line : goal.invariant-loop-line
invariant-loop-line l = All (λ line. HasSets line) (take l.line-index l.lines)
