-- Which ground problem is that of a model. What a reader believes after this file: its searched
-- variables are the model's cells, and it stands for the question which configurations are wanted,
-- with the objectives as its goals, before which comes, of a repair, the number of changes.
use Rattle.std.specs.Prelude.{◌≡◌, ◌↔◌, Bool, true, false, List, ◌∷◌, ℤ, pos, Option, None, Some}
use Rattle.class_table.specs.Outline.{Outline}
use Rattle.conf_types.specs.Programs.{ResolvedConstraint, ResolvedGoal}
use Rattle.ground_cells.specs.CellBoxes.{cell_boxes}
use Rattle.ground_model.specs.Objectives.{functions}
use Rattle.ground_form.specs.declared.ground.Ground.{Ground}
use Rattle.ground_form.specs.StandsFor.{StandsFor}
use Rattle.object_alloc.specs.Changes.{changes}
use Rattle.reconfigure.specs.declared.repair.Repair.{Repair}
use Rattle.model_search.specs.Wanted.{IsWanted}

-- what is to be made great or small, the first things first
abbrev pub aims : Outline → List ResolvedGoal → Option Repair → List (Bool × (List ℤ → ℤ))
aims o gs None = functions o gs
aims o gs (Some r) = (false, λ t. pos (changes o r.former t)) ∷ functions o gs

pub record IsProblemOf (o : Outline) (ks : List ResolvedConstraint) (gs : List ResolvedGoal)
    (r : Option Repair) (g : Ground) : Type 0 where
  pub test : List ℤ → Bool
  pub asks : (t : List ℤ) → (test t ≡ true) ↔ IsWanted o ks r t
  pub stands : StandsFor g (cell_boxes o) test (aims o gs r)
