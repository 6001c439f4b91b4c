use Rattle.std.proofs.Common.{◌≡◌}
use Rattle.view_breaks.specs.Lines.{line_number}
use Rattle.view_breaks.proofs.lines.further.Given as goal

abbrev pub invariant-loop-at : goal.invariant-loop-at
invariant-loop-at l = l.line ≡ line_number l.text l.at
