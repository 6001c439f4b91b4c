use Rattle.std.proofs.Common.{ℕ, ◌<◌, get_or}
use Rattle.conf_syntax.specs.declared.token.Key.{Key}
use Rattle.conf_syntax.specs.Spelling.{IsKeySpelling}
use Rattle.conf_parse.proofs.keyword.keyword.Given as goal

-- no keyword before the index is spelled by the word
abbrev pub invariant-loop-key : goal.invariant-loop-key
invariant-loop-key l = (i : ℕ) → i < l.key-index → (other : Key) → IsKeySpelling (get_or l.key-items i other) l.word → ⊥
