use Rattle.std.proofs.Common.{◌≡◌, ◌++◌, drop, map}
use Rattle.proof_log.specs.Spelling.{behind, step_text}
use Rattle.proof_log.proofs.writing.push_steps.Given as goal

abbrev pub invariant-loop-s : goal.invariant-loop-s
invariant-loop-s l = l.out.items ++ behind 32 (map step_text (drop l.s-index l.steps)) ≡ l.initial.out.items ++ behind 32 (map step_text l.steps)
