use Rattle.std.proofs.Common.{◌≡◌, ◌++◌, drop}
use Rattle.conf_session.proofs.words.copied_words.Given as goal

abbrev pub invariant-loop-word : goal.invariant-loop-word
invariant-loop-word l = l.copy.items ++ drop l.word-index l.words ≡ l.words
