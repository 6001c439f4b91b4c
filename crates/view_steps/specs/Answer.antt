-- What is printed as the steps from one configuration to another.
use Rattle.std.specs.Prelude.{◌≡◌, ℕ, Bool, true, false, List, [], ◌∷◌, Option}
use Rattle.serde_json.specs.Data.{Data}
use Rattle.view_leaves.specs.Leaves.{leaves}
use Rattle.view_picture.specs.Picture.{PictureSize}
use Rattle.view_plan.specs.Plan.{PlanLine, IsPlan}
use Rattle.view_steps.specs.Moves.{are_plain, moves_among}
use Rattle.view_steps.specs.Steps.{IsOrdered}
use Rattle.view_steps.specs.Text.{IsStepsText}
use Rattle.view_steps.specs.declared.steps.StepsError.{StepsError}
use Rattle.view_steps.specs.declared.steps.StepsError.TheVariants.{Sets, Memory}

abbrev pub has_some : List PlanLine → Bool
has_some [] = false
has_some (l ∷ ls) = true

-- a text of an order, by way of a stop where one is given, and whether moves are left
pub record IsSteps (d e : Data) (a : List ℕ) (sizes : List PictureSize) (stop : Option Data) (text : List ℕ) (stuck : Bool) : Type 0 where
  pub made : List PlanLine
  pub left : List PlanLine
  pub ordered : IsOrdered e a sizes stop (leaves d) (leaves e) made left
  pub some_left : stuck ≡ has_some left
  pub shown : IsStepsText made left text

-- a plan in which a set is among what moves
pub record MovesSets (d e : Data) (a : List ℕ) : Type 0 where
  pub lines : List PlanLine
  pub plan : IsPlan (leaves d) (leaves e) lines
  pub sets : are_plain (moves_among a lines) ≡ false

abbrev pub IsStepsRefused : Data → Data → List ℕ → StepsError → Type 0
IsStepsRefused d e a Sets = MovesSets d e a
IsStepsRefused d e a Memory = Unit {0}
