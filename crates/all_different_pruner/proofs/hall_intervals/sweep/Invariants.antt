use Rattle.std.proofs.Common.{drop}
use Rattle.all_different_pruner.specs.Intervals.{AreSwept}
use Rattle.all_different_pruner.proofs.hall_intervals.sweep.Given as goal

abbrev pub invariant-loop-x : goal.invariant-loop-x
invariant-loop-x l = AreSwept (drop l.x-index l.vars) l.vars l.boxes → AreSwept l.vars l.vars l.boxes
