-- The lines of a plan that are asked for.
use Rattle.std.specs.Prelude.{ℕ, Bool, true, List, [], ◌∷◌, filter}
use Rattle.std.specs.List.{list_any}
use Rattle.view_leaves.specs.Paths.{Path}
use Rattle.view_picture.specs.Mentions.{is_named}
use Rattle.view_plan.specs.Plan.{PlanLine}

-- whether a path ends in one of these names
abbrev pub has_name : List (List ℕ) → Path → Bool
has_name names p = list_any (λ a. is_named a p) names

-- where no name is given, all are asked for
abbrev pub is_chosen : List (List ℕ) → Path → Bool
is_chosen [] p = true
is_chosen (a ∷ names) p = has_name (a ∷ names) p

abbrev pub chosen : List (List ℕ) → List PlanLine → List PlanLine
chosen names ls = filter (λ (l : PlanLine). is_chosen names l.0) ls
