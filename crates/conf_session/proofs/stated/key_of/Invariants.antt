use Rattle.std.proofs.Common.{◌≡◌, ◌++◌, drop}
use Rattle.conf_session.specs.Keys.{clause_words}
use Rattle.conf_session.proofs.stated.key_of.Given as goal

abbrev pub invariant-loop-literal : goal.invariant-loop-literal
invariant-loop-literal l = l.words.items ++ clause_words (drop l.literal-index l.literals) ≡ clause_words l.literals
