-- The constraints and objectives of a model that can be made ground. What a reader believes after
-- this file: each is typed where it stands, and its numbers are narrow.
use Rattle.std.specs.Prelude.{ℕ, ◌<◌, List, [], Option, None, IfSome, length}
use Rattle.std.specs.List.{All}
use Rattle.class_table.specs.Outline.{Outline}
use Rattle.conf_types.specs.Programs.{ResolvedConstraint, ResolvedGoal}
use Rattle.conf_types.specs.Trees.{Tree}
use Rattle.conf_eval.specs.Satisfying.{stated_for}
use Rattle.expr_forms.specs.Standing.{IsStanding}

-- the expression can be made ground where it stands
abbrev pub IsReady : Outline → Tree → Option ℕ → Type 0
IsReady o t this = IsStanding o t this []

-- a constraint can, for each object for which it is stated
pub record IsReadyConstraint (o : Outline) (k : ResolvedConstraint) : Type 0 where
  pub class : IfSome k.class (λ c. c < length o.classes)
  pub ready : All (λ this. IsReady o k.tree this) (stated_for o k.class)

-- an objective can
abbrev pub IsReadyGoal : Outline → ResolvedGoal → Type 0
IsReadyGoal o g = IsReady o g.tree None

-- all of a model can
pub record IsReadyModel (o : Outline) (ks : List ResolvedConstraint) (gs : List ResolvedGoal) : Type 0 where
  pub constraints : All (IsReadyConstraint o) ks
  pub goals : All (IsReadyGoal o) gs
