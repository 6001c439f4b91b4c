use Rattle.std.proofs.Common.{◌<◌, drop, All}
use Rattle.test_well_made.proofs.problem.are_goals_named.Given as goal

abbrev pub invariant-loop-goal : goal.invariant-loop-goal
invariant-loop-goal l = All (λ goal. goal.var < l.count) (drop l.goal-index l.goals) → All (λ goal. goal.var < l.count) l.goals
