use Rattle.std.proofs.Common.{◌≤◌, drop, length}
use Rattle.all_different_pruner.specs.Intervals.{AreAlone}
use Rattle.all_different_pruner.proofs.single_values.find_single.Given as goal

abbrev pub invariant-loop-k : goal.invariant-loop-k
invariant-loop-k l = record {
  within : l.k ≤ length l.vars;
  alone : AreAlone (drop l.k l.vars) l.vars l.boxes;
}

abbrev pub decreases-loop-k : goal.decreases-loop-k
decreases-loop-k l = l.k
