use Rattle.std.proofs.Common.{◌≡◌, ◌+◌, drop}
use Rattle.reconfigure.specs.Failing.{unknown_from, unknown_word}
use Rattle.reconfigure.proofs.failed.unknown_word.Given as goal

-- what is left decides
abbrev pub invariant-loop-i : goal.invariant-loop-i
invariant-loop-i l = unknown_from l.objects (l.i + 1) (drop l.i l.words) ≡ unknown_word l.objects l.words
