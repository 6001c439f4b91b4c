-- The objectives of a model, as functions of a configuration.
use Rattle.std.specs.Prelude.{Bool, List, ℤ, map}
use Rattle.class_table.specs.Outline.{Outline}
use Rattle.conf_types.specs.Programs.{ResolvedGoal}
use Rattle.conf_eval.specs.Satisfying.{objective}

-- the objectives, each with its direction
abbrev pub functions : Outline → List ResolvedGoal → List (Bool × (List ℤ → ℤ))
functions o gs = map (λ (g : ResolvedGoal). (g.max, λ (values : List ℤ). objective o values g)) gs
