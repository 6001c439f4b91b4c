use Rattle.std.proofs.Common.{◌≡◌, ◌++◌, drop}
use Rattle.conf_session.specs.Failed.{without_word}
use Rattle.conf_session.proofs.words.without_word.Given as goal

abbrev pub invariant-loop-other : goal.invariant-loop-other
invariant-loop-other l = l.words.items ++ without_word l.word (drop l.other-index l.failed) ≡ without_word l.word l.failed
