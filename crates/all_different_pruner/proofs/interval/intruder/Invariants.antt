use Rattle.std.proofs.Common.{drop}
use Rattle.all_different_pruner.specs.Intervals.{AreOutside}
use Rattle.all_different_pruner.proofs.interval.intruder.Given as goal

abbrev pub invariant-loop-x : goal.invariant-loop-x
invariant-loop-x l = AreOutside l.a.value l.b.value (drop l.x-index l.vars) l.boxes → AreOutside l.a.value l.b.value l.vars l.boxes
