use Rattle.std.proofs.Common.{◌≡◌, drop}
use Rattle.log_form.specs.Acceptance.{states}
use Rattle.log_check.proofs.solution.are_goal_values.Given as goal

abbrev pub invariant-loop-k : goal.invariant-loop-k
invariant-loop-k l = states (drop l.k l.goals) l.values (drop l.k l.stated) ≡ states l.goals l.values l.stated
