use Rattle.std.proofs.Common.{◌≡◌, ◌<◌, ◌++◌, drop, length}
use Rattle.log_form.specs.Acceptance.{bounds_from, bounds_of}
use Rattle.log_form.proofs.bounds.bounds_of.Given as goal

abbrev pub invariant-loop-k : goal.invariant-loop-k
invariant-loop-k l = record {
  some : l.k < length l.goals;
  clauses : l.out.items ++ bounds_from l.domains l.values l.earlier (drop l.k l.goals)
      ≡ bounds_of l.goals l.domains l.values;
}
