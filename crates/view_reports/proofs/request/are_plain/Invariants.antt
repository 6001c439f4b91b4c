use Rattle.std.proofs.Common.{◌≡◌, drop, map, string_bytes}
use Rattle.view_reports.specs.Words.{are_plain}
use Rattle.view_reports.proofs.request.are_plain.Given as goal

-- what was read, with the words that are left, decides
abbrev pub invariant-loop-word : goal.invariant-loop-word
invariant-loop-word l =
    are_plain (map string_bytes (drop l.word-index l.words)) ≡ are_plain (map string_bytes l.words)
