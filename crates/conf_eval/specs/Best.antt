-- The best configurations of a model, and that it has none that satisfies its constraints.
use Rattle.std.specs.Prelude.{◌≡◌, false, List, ℤ}
use Rattle.class_table.specs.Outline.{Outline}
use Rattle.conf_types.specs.Programs.{ResolvedConstraint, ResolvedGoal}
use Rattle.object_alloc.specs.Configurations.{IsConfiguration}
use Rattle.conf_eval.specs.Satisfying.{Satisfies, objectives, better}

-- no configuration that satisfies the constraints is better
abbrev pub IsBest : Outline → List ResolvedConstraint → List ResolvedGoal → List ℤ → Type 0
IsBest o ks gs t =
    (u : List ℤ) → IsConfiguration o u → Satisfies o ks u → better gs (objectives o gs u)
    (objectives o gs t) ≡ false

-- no configuration satisfies the constraints
abbrev pub HasNone : Outline → List ResolvedConstraint → Type 0
HasNone o ks = (u : List ℤ) → IsConfiguration o u → Satisfies o ks u → ⊥
