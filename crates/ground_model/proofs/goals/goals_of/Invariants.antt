use Rattle.ground_model.proofs.GoalSteps.{AreGoalsUpTo}
use Rattle.ground_model.proofs.goals.goals_of.Given as goal

abbrev pub invariant-loop-goal : goal.invariant-loop-goal
invariant-loop-goal l = AreGoalsUpTo l.objects l.fn.maker l.maker l.goals.items l.list l.goal-index
