use Rattle.std.proofs.Common.{◌≡◌, ◌≤◌, drop, length}
use Rattle.pack_fit.specs.Survey.{AreCounted}
use Rattle.pack_fit.proofs.survey.add_items.Given as goal

abbrev pub invariant-loop-k : goal.invariant-loop-k
invariant-loop-k l = record {
  size : length l.bins ≡ length l.fn.bins;
  behind : AreCounted l.bins l.first.value (drop l.k l.items) l.boxes;
  upto : l.k ≤ length l.items;
}

abbrev pub decreases-loop-k : goal.decreases-loop-k
decreases-loop-k l = l.k
