use Rattle.std.proofs.Common.{◌≡◌, false, drop, map, string_bytes}
use Rattle.view_run.specs.Options.{are_choices}
use Rattle.view_run.proofs.request.are_choices.Given as goal

-- what was read, with the words that are left, decides
abbrev pub invariant-loop-word : goal.invariant-loop-word
invariant-loop-word l =
    are_choices l.waits (map string_bytes (drop l.word-index l.words))
    ≡ are_choices false (map string_bytes l.words)
