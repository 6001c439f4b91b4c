-- The text of an order of moves.
use Rattle.std.specs.Prelude.{◌≡◌, ℕ, false, List, [], ◌∷◌, ◌++◌, codes, decimal, length}
use Rattle.std.specs.List.{flat_map, list_any}
use Rattle.view_plan.specs.Plan.{PlanLine}
use Rattle.view_plan.specs.Text.{line_text, shows_fraction}

-- a line for each move, as in a plan, and how many
abbrev pub counted_text : List ℕ → List PlanLine → List ℕ
counted_text what ls = flat_map line_text ls ++ decimal (length ls) ++ what

-- the moves in order; and where some are left, these, with what they lack behind them
abbrev pub steps_text : List PlanLine → List PlanLine → List ℕ → List ℕ
steps_text made [] needs = counted_text (codes " steps\n") made
steps_text made (l ∷ ls) needs =
    counted_text (codes " steps\n") made ++ counted_text (codes " left\n") (l ∷ ls) ++ needs

-- a text of an order; what the moves that are left lack isn't said, nor how the digits of a number
-- with a fraction are spelled
pub record IsStepsText (made left : List PlanLine) (text : List ℕ) : Type 0 where
  pub needs : List ℕ
  pub same : list_any shows_fraction (made ++ left) ≡ false → text ≡ steps_text made left needs
