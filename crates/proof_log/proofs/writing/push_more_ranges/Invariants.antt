use Rattle.std.proofs.Common.{◌≡◌, ◌++◌, drop, map}
use Rattle.proof_log.specs.Spelling.{behind, range_text}
use Rattle.proof_log.proofs.writing.push_more_ranges.Given as goal

abbrev pub invariant-loop-r : goal.invariant-loop-r
invariant-loop-r l = l.out.items ++ behind 44 (map range_text (drop l.r-index l.ranges)) ≡ l.initial.out.items ++ behind 44 (map range_text l.ranges)
