use Rattle.std.proofs.Common.{◌≡◌, ℤ, ◌<◌, ◌≤◌, ◌≤ℤ◌, ◌-◌, pos, take, length, slice_index_or}
use Rattle.signed_clause.specs.Ranges.{has}
use Rattle.box_view.proofs.values.begun.Given as goal

abbrev pub invariant-loop-low : goal.invariant-loop-low
invariant-loop-low l = record {
  left : (u : ℤ) → u ≤ℤ l.at.value → has (take l.high l.ranges) u ≡ has l.ranges u;
  reached : 0 < l.low → (slice_index_or l.ranges (l.low - 1) (pos 0, pos 0)).0 ≤ℤ l.at.value;
  ordered : l.low ≤ l.high;
  in_range : l.high ≤ length l.ranges;
}

abbrev pub decreases-loop-low : goal.decreases-loop-low
decreases-loop-low l = l.high - l.low
