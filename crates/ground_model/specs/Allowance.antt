-- How much a model may make. What a reader believes after this file: how many variables, and how
-- many constraints, the ground problem of a model has at most.
use Rattle.std.specs.Prelude.{ℕ, ◌+◌, ◌*◌, ◌≤◌, Bool, true, false, not, ◌&&◌, nat_eq, List, filter, length}
use Rattle.class_table.specs.declared.table.Resolved.{Resolved}
use Rattle.class_table.specs.declared.table.Resolved.TheVariants as shape
use Rattle.class_table.specs.Outline.{Outline}
use Rattle.conf_types.specs.Programs.{ResolvedConstraint, ResolvedGoal}
use Rattle.object_alloc.specs.declared.object.Leaf.{Leaf}
use Rattle.object_alloc.specs.Cells.{cells}
use Rattle.object_alloc.specs.Groups.{own_cells}
use Rattle.object_alloc.specs.Walk.{walk, leaves_in}
use Rattle.conf_limits.specs.Measures.{model_weight}
use Rattle.ground_form.specs.declared.ground.Ground.{Ground}

-- at most n variables, and at most n constraints
pub record HasAtMost (n : ℕ) (g : Ground) : Type 0 where
  pub variables : length g.domains ≤ n
  pub constraints : length g.cons ≤ n

abbrev pub is_set : Resolved → Bool
is_set (shape.RefSet c n) = true
is_set s = false

-- a reference set that has cells
abbrev pub is_open_set : Outline → Leaf → Bool
is_open_set o l = is_set l.shape && not (nat_eq (length (own_cells o l.owner l.attribute)) 0)

-- one for each cell, two for each reference set that has cells, one more, and 1024 for each unit of
-- the model's weight
abbrev pub allowance : Outline → List ResolvedConstraint → List ResolvedGoal → ℕ
allowance o ks gs =
    length (cells o) + 2 * length (filter (is_open_set o) (leaves_in (walk o))) + 1
    + 1024 * model_weight o ks gs
