-- Goals of a problem that has no configuration. What a reader believes after this file: there is
-- one for each objective, in its direction, and it is on the first variable.
use Rattle.conf_types.specs.Programs.{ResolvedGoal}
use Rattle.ground_form.specs.declared.ground.GroundGoal.{GroundGoal}

abbrev pub idle_goal : ResolvedGoal → GroundGoal
idle_goal g = record { var = 0; max = g.max }
