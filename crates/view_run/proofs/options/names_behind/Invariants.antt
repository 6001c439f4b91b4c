use Rattle.std.proofs.Common.{◌≡◌, ◌++◌, false, drop, map, string_bytes}
use Rattle.view_run.specs.Options.{names_behind}
use Rattle.view_run.proofs.options.names_behind.Given as goal

-- what was read, with the words that are left, decides
abbrev pub invariant-loop-word : goal.invariant-loop-word
invariant-loop-word l =
    map (λ w. w.now) l.names.items ++ names_behind l.option l.waits l.wanted (map string_bytes (drop l.word-index l.words))
    ≡ names_behind l.option false false (map string_bytes l.words)
