use Rattle.std.proofs.Common.{◌-◌, ◌≤◌}
use Rattle.clause_watches.specs.Watching.{clause_of, rest_of}
use Rattle.clause_watches.specs.Looking.{AreOutBetween}
use Rattle.clause_watches.proofs.look.find_between.Given as goal

abbrev pub invariant-loop-k : goal.invariant-loop-k
invariant-loop-k l = record {
  within : l.k ≤ l.to;
  out : AreOutBetween l.boxes (rest_of l.table.rests l.i) (clause_of l.table.added.items l.i)
      l.from l.k;
}

abbrev pub decreases-loop-k : goal.decreases-loop-k
decreases-loop-k l = l.to - l.k
