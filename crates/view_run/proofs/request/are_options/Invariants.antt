use Rattle.std.proofs.Common.{◌≡◌, false, drop, map, string_bytes}
use Rattle.view_run.specs.Options.{are_options}
use Rattle.view_run.proofs.request.are_options.Given as goal

-- what was read, with the words that are left, decides
abbrev pub invariant-loop-word : goal.invariant-loop-word
invariant-loop-word l =
    are_options l.may l.waits (map string_bytes (drop l.word-index l.words))
    ≡ are_options l.may_stop false (map string_bytes l.words)
