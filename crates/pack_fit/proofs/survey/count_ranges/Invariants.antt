use Rattle.std.proofs.Common.{◌≡◌, ◌+◌, ◌<◌, ◌≤◌, ◌+ℤ◌, ℕ, pos, drop, length, slice_index_or}
use Rattle.pack_fit.specs.Survey.{begun_at, ended_at}
use Rattle.pack_fit.proofs.survey.count_ranges.Given as goal

abbrev pub invariant-loop-j : goal.invariant-loop-j
invariant-loop-j l = record {
  begun_size : length l.begun ≡ length l.fn.begun;
  ended_size : length l.ended ≡ length l.fn.ended;
  begun : (e : ℕ) → e < length l.fn.begun → slice_index_or l.begun e 0 ≡ begun_at (l.first.value +ℤ pos e) (drop l.j l.ranges) + slice_index_or l.fn.begun e 0;
  ended : (e : ℕ) → e < length l.fn.begun → slice_index_or l.ended e 0 ≡ ended_at (l.first.value +ℤ pos e) (drop l.j l.ranges) + slice_index_or l.fn.ended e 0;
  upto : l.j ≤ length l.ranges;
}

abbrev pub decreases-loop-j : goal.decreases-loop-j
decreases-loop-j l = l.j
