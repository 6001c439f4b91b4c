use Rattle.std.proofs.Common.{◌≡◌, ◌++◌}
use Rattle.numbered_clauses.specs.Coded.{ranges_at, behind_ranges}
use Rattle.numbered_clauses.proofs.packed_reading.read_ranges.Given as goal

abbrev pub invariant-loop-more : goal.invariant-loop-more
invariant-loop-more l = record {
  ranges : l.out.items ++ ranges_at l.more l.left ≡ ranges_at l.count l.text;
  behind : behind_ranges l.more l.left ≡ behind_ranges l.count l.text;
}

abbrev pub decreases-loop-more : goal.decreases-loop-more
decreases-loop-more l = l.more
