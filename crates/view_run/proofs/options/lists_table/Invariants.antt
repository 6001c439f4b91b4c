use Rattle.std.proofs.Common.{◌≡◌, false, drop, map, string_bytes}
use Rattle.view_run.specs.Options.{lists_table}
use Rattle.view_run.proofs.options.lists_table.Given as goal

-- what was read, with the words that are left, decides
abbrev pub invariant-loop-word : goal.invariant-loop-word
invariant-loop-word l =
    lists_table l.waits (map string_bytes (drop l.word-index l.words))
    ≡ lists_table false (map string_bytes l.words)
