use Rattle.std.proofs.Common.{◌≡◌, false, drop, map, string_bytes}
use Rattle.view_run.specs.Options.{wants_svg}
use Rattle.view_run.proofs.options.wants_svg.Given as goal

-- what was read, with the words that are left, decides
abbrev pub invariant-loop-word : goal.invariant-loop-word
invariant-loop-word l =
    wants_svg l.waits (map string_bytes (drop l.word-index l.words))
    ≡ wants_svg false (map string_bytes l.words)
