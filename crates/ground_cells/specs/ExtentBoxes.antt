-- Boxes of extents that are kept. What a reader believes after this file: each is that of its
-- class.
use Rattle.std.specs.Prelude.{◌≡◌, List}
use Rattle.std.specs.List.{All}
use Rattle.class_table.specs.Outline.{Outline}
use Rattle.object_alloc.specs.declared.object.Domain.TheVariants.{Extent}
use Rattle.ground_cells.specs.declared.cells.ExtentBox.{ExtentBox}
use Rattle.ground_cells.specs.CellBoxes.{domain_box}

abbrev pub AreExtentBoxes : Outline → List ExtentBox → Type 0
AreExtentBoxes o bs = All (λ (b : ExtentBox). b.set ≡ domain_box o (Extent b.class)) bs
