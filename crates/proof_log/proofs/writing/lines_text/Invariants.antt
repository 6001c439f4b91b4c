use Rattle.std.proofs.Common.{◌≡◌, ◌++◌, drop}
use Rattle.proof_log.specs.Spelling.{lines_text}
use Rattle.proof_log.proofs.writing.lines_text.Given as goal

abbrev pub invariant-loop-l : goal.invariant-loop-l
invariant-loop-l l = l.out.items ++ lines_text (drop l.l-index l.lines) ≡ lines_text l.lines
