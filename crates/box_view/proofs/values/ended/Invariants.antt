use Rattle.std.proofs.Common.{◌≡◌, ℤ, ◌<◌, ◌≤◌, ◌≤ℤ◌, ◌-◌, pos, drop, length, slice_index_or}
use Rattle.signed_clause.specs.Ranges.{has}
use Rattle.box_view.proofs.values.ended.Given as goal

abbrev pub invariant-loop-low : goal.invariant-loop-low
invariant-loop-low l = record {
  left : (u : ℤ) → l.at.value ≤ℤ u → has (drop l.low l.ranges) u ≡ has l.ranges u;
  reached : l.high < length l.ranges → l.at.value ≤ℤ (slice_index_or l.ranges l.high (pos 0, pos 0)).1;
  ordered : l.low ≤ l.high;
  in_range : l.high ≤ length l.ranges;
}

abbrev pub decreases-loop-low : goal.decreases-loop-low
decreases-loop-low l = l.high - l.low
