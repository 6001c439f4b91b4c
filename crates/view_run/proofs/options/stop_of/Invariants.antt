use Rattle.std.proofs.Common.{◌≡◌, drop, map, string_bytes}
use Rattle.view_run.specs.Options.{stop_among, stop_of}
use Rattle.view_run.proofs.options.stop_of.Given as goal

-- what was read, with the words that are left, decides
abbrev pub invariant-loop-word : goal.invariant-loop-word
invariant-loop-word l =
    stop_among l.waits l.wanted (map string_bytes (drop l.word-index l.words))
    ≡ stop_of (map string_bytes l.words)
