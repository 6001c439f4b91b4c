use Rattle.std.proofs.Common.{◌≡◌, ◌++◌, drop}
use Rattle.bound_search.specs.BoundLists.{values_of}
use Rattle.bound_search.proofs.bounding.goal_values.Given as goal

abbrev pub invariant-loop-goal : goal.invariant-loop-goal
invariant-loop-goal l = l.out.items ++ values_of l.values (drop l.goal-index l.goals) ≡ values_of l.values l.goals
