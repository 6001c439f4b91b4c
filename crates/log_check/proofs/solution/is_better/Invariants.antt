use Rattle.std.proofs.Common.{◌≡◌, drop}
use Rattle.ground_form.specs.Solutions.{better}
use Rattle.log_check.proofs.solution.is_better.Given as goal

abbrev pub invariant-loop-goal : goal.invariant-loop-goal
invariant-loop-goal l = better (drop l.goal-index l.goals) l.values l.others ≡ better l.goals l.values l.others
