-- What a model says, and when it is within the limits.
use Rattle.std.specs.Prelude.{◌≡◌, ◌≤◌, true, List, map}
use Rattle.model_limits.specs.Limits.{most_weight}
use Rattle.class_table.specs.Outline.{Outline, outline}
use Rattle.conf_limits.specs.Measures.{model_weight, model_narrow}
use Rattle.conf_syntax.specs.declared.tree.Program.{Program}
use Rattle.conf_types.specs.Programs.{ResolvedConstraint, ResolvedGoal, resolved_constraint, resolved_goal, constraints, goals}
use Rattle.object_alloc.specs.Limits.{IsWithinLimits}
use Rattle.model_reader.specs.Meaning.{IsTyped}

-- its classes, enumerations and top-level variables
abbrev pub outline_of : Program → Outline
outline_of p = outline p.items

-- its constraints, in order of place, with each name resolved
abbrev pub constraints_of : Program → List ResolvedConstraint
constraints_of p = map (resolved_constraint (outline_of p)) (constraints p.items)

-- its objectives, in order of place, with each name resolved
abbrev pub goals_of : Program → List ResolvedGoal
goals_of p = map (resolved_goal (outline_of p)) (goals p.items)

-- no fault stands in the model, and no limit is broken
pub record IsWithin (p : Program) : Type 0 where
  pub typed : IsTyped p
  pub objects : IsWithinLimits (outline_of p)
  pub light : model_weight (outline_of p) (constraints_of p) (goals_of p) ≤ most_weight
  pub narrow : model_narrow (outline_of p) (constraints_of p) (goals_of p) ≡ true
