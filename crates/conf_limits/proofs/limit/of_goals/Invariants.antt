use Rattle.std.proofs.Common.{drop, All}
use Rattle.std.specs.List.{list_all, sum_by}
use Rattle.conf_limits.specs.Counting.{IsTotalling}
use Rattle.conf_limits.specs.Limits.{IsGoalThere}
use Rattle.conf_limits.specs.Measures.{goal_weight, goal_narrow}
use Rattle.conf_limits.proofs.limit.of_goals.Given as goal

-- with what is left it is that of all
abbrev pub invariant-loop-goal : goal.invariant-loop-goal
invariant-loop-goal l =
    let o = l.objects in
    let left = drop l.goal-index l.list in
    let all = l.list in
    record {
      there : All (IsGoalThere o) left;
      total : IsTotalling l.total (sum_by (goal_weight o) left) (sum_by (goal_weight o) all) (list_all (goal_narrow o) left) (list_all (goal_narrow o) all);
    }
