use Rattle.std.proofs.Common.{drop}
use Rattle.all_different_pruner.specs.Intervals.{HaveNoRival}
use Rattle.all_different_pruner.proofs.single_values.rival_of.Given as goal

abbrev pub invariant-loop-y : goal.invariant-loop-y
invariant-loop-y l = HaveNoRival l.x l.a.value (drop l.y-index l.vars) l.boxes → HaveNoRival l.x l.a.value l.vars l.boxes
