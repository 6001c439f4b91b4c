use Rattle.std.proofs.Common.{◌≡◌, drop}
use Rattle.log_form.specs.Acceptance.{point_of}
use Rattle.log_check.proofs.solution.is_point.Given as goal

abbrev pub invariant-loop-x : goal.invariant-loop-x
invariant-loop-x l = point_of (drop l.x l.domains) (drop l.x l.values) ≡ point_of l.domains l.values
