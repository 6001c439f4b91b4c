use Rattle.std.proofs.Common.{◌≡◌, ◌++◌, drop, map}
use Rattle.object_alloc.specs.declared.object.Cell.{Cell}
use Rattle.ground_cells.specs.CellBoxes.{domain_box, cell_boxes}
use Rattle.ground_cells.specs.ExtentBoxes.{AreExtentBoxes}
use Rattle.ground_cells.proofs.cells.cell_boxes.Given as goal

-- with the boxes of what is left it is those of all cells
abbrev pub invariant-loop-cell : goal.invariant-loop-cell
invariant-loop-cell l = record {
  kept : AreExtentBoxes l.objects l.kept.items;
  rest : l.boxes.items ++ map (λ (c : Cell). domain_box l.objects c.domain) (drop l.cell-index l.cell-items) ≡ cell_boxes l.objects;
}
