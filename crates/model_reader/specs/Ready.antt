-- What is known of the parts of a model that is within the limits: what its reader hands on to those
-- who answer what is asked of it.
use Rattle.std.specs.Prelude.{◌≡◌, ◌<◌, ◌^◌, true, List, length}
use Rattle.class_table.specs.Outline.{Outline}
use Rattle.conf_limits.specs.Measures.{model_narrow}
use Rattle.conf_types.specs.Programs.{ResolvedConstraint, ResolvedGoal}
use Rattle.conf_types.specs.Typing.{IsTypedModel}

-- the table and the objects are of one model, which is typed and within the limits
pub record IsReady (table objects : Outline) (ks : List ResolvedConstraint)
    (gs : List ResolvedGoal) : Type 0 where
  pub one : objects ≡ table
  pub typed : IsTypedModel objects ks gs
  pub narrow : model_narrow objects ks gs ≡ true
  pub few : length ks < 2 ^ 32
