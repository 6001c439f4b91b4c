use Rattle.std.proofs.Common.{◌≡◌, ◌≤◌, ◌-◌, length}
use Rattle.all_different_pruner.specs.Counters.{total}
use Rattle.all_different_pruner.specs.Sweeps.{ArePassed}
use Rattle.all_different_pruner.proofs.hall_intervals.pass.Given as goal

abbrev pub invariant-loop-d : goal.invariant-loop-d
invariant-loop-d l = record {
  upto : l.d ≤ length l.ends;
  begun : l.begun ≡ total l.d l.starts;
  ended : l.ended ≡ total l.d l.ends;
  passed : ArePassed l.a.value l.d l.full l.vars l.boxes;
}

abbrev pub decreases-loop-d : goal.decreases-loop-d
decreases-loop-d l = length l.ends - l.d
