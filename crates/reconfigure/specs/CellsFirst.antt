-- The cells of a model as the first variables of a problem. What a reader believes after this file:
-- they are searched, and no other is.
use Rattle.std.specs.Prelude.{◌≡◌, ◌++◌, length}
use Rattle.class_table.specs.Outline.{Outline}
use Rattle.signed_clause.specs.Clauses.{Boxes}
use Rattle.ground_form.specs.declared.ground.Ground.{Ground}
use Rattle.ground_cells.specs.CellBoxes.{cell_boxes}

pub record HasCells (o : Outline) (g : Ground) : Type 0 where
  pub searched : g.search ≡ length (cell_boxes o)
  pub rest : Boxes
  pub domains : g.domains ≡ cell_boxes o ++ rest
