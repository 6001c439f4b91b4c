use Rattle.std.proofs.Common.{◌≡◌, ◌++◌, drop}
use Rattle.std.specs.List.{flat_map}
use Rattle.view_leaves.specs.Spelling.{escaped_byte}
use Rattle.view_leaves.proofs.spelling.push_all_escaped.Given as goal

-- what is written and what is left to write are all
abbrev pub invariant-loop-byte : goal.invariant-loop-byte
invariant-loop-byte l =
    l.text.items ++ flat_map escaped_byte (drop l.byte-index l.bytes)
    ≡ l.initial.text.items ++ flat_map escaped_byte l.bytes
