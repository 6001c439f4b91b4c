use Rattle.std.proofs.Common.{◌≡◌, take, true}
use Rattle.proof_log.specs.Spelling.{lacks}
use Rattle.proof_log.proofs.parts.first_place.Given as goal

abbrev pub invariant-loop-i : goal.invariant-loop-i
invariant-loop-i l = lacks l.separator (take l.i l.text) ≡ true
