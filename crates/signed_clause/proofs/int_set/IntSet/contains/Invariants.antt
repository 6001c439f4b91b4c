use Rattle.std.proofs.Common.{◌≡◌, false, ◌<◌, ◌≤◌, ◌-◌, pos, int_lt, drop, length, slice_index_or}
use Rattle.signed_clause.specs.Ranges.{has}
use Rattle.signed_clause.proofs.int_set.IntSet.contains.Given as goal

-- the ranges from low on have the value where the set has it, and the one at high, where there is
-- one, reaches it
abbrev pub invariant-loop-low : goal.invariant-loop-low
invariant-loop-low l = record {
  left : has (drop l.low l.ranges) l.v ≡ has l.self l.v;
  reached : l.high < length l.ranges → int_lt (slice_index_or l.ranges l.high (pos 0, pos 0)).1 l.v ≡ false;
  ordered : l.low ≤ l.high;
  in_range : l.high ≤ length l.ranges;
}

abbrev pub decreases-loop-low : goal.decreases-loop-low
decreases-loop-low l = l.high - l.low
