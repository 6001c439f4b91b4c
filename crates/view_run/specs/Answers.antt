-- What is printed as the plan from one configuration to another.
use Rattle.std.specs.Prelude.{ℕ, ◌≡◌, Bool, true, false, if◌then◌else◌, List, [], ◌∷◌, ◌++◌}
use Rattle.std.specs.List.{flat_map, list_any}
use Rattle.csv.specs.Writing.{default_writer, row_text}
use Rattle.serde_json.specs.Data.{Data}
use Rattle.view_leaves.specs.Leaves.{leaves}
use Rattle.view_plan.specs.Plan.{PlanLine, IsPlan}
use Rattle.view_plan.specs.Text.{plan_text, shows_fraction}
use Rattle.view_run.specs.Options.{lists_table, only_of, weights_of}
use Rattle.view_tables.specs.Cells.{plan_rows}
use Rattle.view_tables.specs.Chosen.{chosen}
use Rattle.view_tables.specs.Weights.{weight, weight_text}

abbrev pub has_some : List PlanLine → Bool
has_some [] = false
has_some (l ∷ ls) = true

-- a line for each name: what these lines weigh by it
abbrev pub weights_text : Data → List PlanLine → List (List ℕ) → List ℕ
weights_text e ls names = flat_map (λ name. weight_text (weight e name ls) name) names

-- lines as a table, or as text with their count and weights
abbrev pub listed_text : Data → List (List ℕ) → List PlanLine → List ℕ
listed_text e options ls =
    if lists_table false options then flat_map (row_text default_writer) (plan_rows ls)
    else plan_text ls ++ weights_text e ls (weights_of options)

-- a text of the lines of the plan that are asked for, and whether there are some; how the digits of
-- a number with a fraction are spelled isn't said
pub record IsPlanText (d e : Data) (options : List (List ℕ)) (shown : List ℕ) (something : Bool) : Type 0 where
  pub lines : List PlanLine
  pub plan : IsPlan (leaves d) (leaves e) lines
  pub differs : something ≡ has_some (chosen (only_of options) lines)
  pub text : list_any shows_fraction (chosen (only_of options) lines) ≡ false
      → shown ≡ listed_text e options (chosen (only_of options) lines)
