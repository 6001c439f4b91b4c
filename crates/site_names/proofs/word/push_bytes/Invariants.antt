use Rattle.std.proofs.Common.{◌≡◌, ◌++◌, drop, map}
use Rattle.site_names.specs.Words.{word_byte}
use Rattle.site_names.proofs.word.push_bytes.Given as goal

-- what is written and what is left to write are all
abbrev pub invariant-loop-byte : goal.invariant-loop-byte
invariant-loop-byte l =
    l.word.items ++ map word_byte (drop l.byte-index l.name)
    ≡ l.initial.word.items ++ map word_byte l.name
