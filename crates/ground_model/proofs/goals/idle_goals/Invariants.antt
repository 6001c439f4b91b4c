use Rattle.std.proofs.Common.{◌≡◌, map, take}
use Rattle.ground_model.specs.Aims.{idle_goal}
use Rattle.ground_model.proofs.goals.idle_goals.Given as goal

abbrev pub invariant-loop-goal : goal.invariant-loop-goal
invariant-loop-goal l = l.goals.items ≡ map idle_goal (take l.goal-index l.list)
