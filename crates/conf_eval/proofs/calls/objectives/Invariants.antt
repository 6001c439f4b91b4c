use Rattle.std.proofs.Common.{◌≡◌, ◌++◌, drop}
use Rattle.conf_eval.specs.Satisfying.{objectives}
use Rattle.conf_eval.proofs.calls.objectives.Given as goal

-- with what is left it is the whole list
abbrev pub invariant-loop-goal : goal.invariant-loop-goal
invariant-loop-goal l =
    l.numbers.items ++ objectives l.objects (drop l.goal-index l.model.goals) l.config ≡ objectives l.objects l.model.goals l.config
