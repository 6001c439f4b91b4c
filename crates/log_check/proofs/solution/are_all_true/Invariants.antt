use Rattle.std.proofs.Common.{◌≡◌, drop}
use Rattle.log_form.specs.Acceptance.{all_true}
use Rattle.log_check.proofs.solution.are_all_true.Given as goal

abbrev pub invariant-loop-con : goal.invariant-loop-con
invariant-loop-con l = all_true (drop l.con-index l.cons) l.values ≡ all_true l.cons l.values
