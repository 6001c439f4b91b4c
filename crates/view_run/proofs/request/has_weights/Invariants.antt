use Rattle.std.proofs.Common.{◌≡◌, false, drop, map, string_bytes}
use Rattle.view_run.specs.Options.{has_weights}
use Rattle.view_run.proofs.request.has_weights.Given as goal

-- what was read, with the words that are left, decides
abbrev pub invariant-loop-word : goal.invariant-loop-word
invariant-loop-word l =
    has_weights l.waits (map string_bytes (drop l.word-index l.words))
    ≡ has_weights false (map string_bytes l.words)
