use Rattle.std.proofs.Common.{length, ap, ◌∙◌}
use Rattle.object_alloc.proofs.HeldCells.{own_cells_count}
use Rattle.conf_eval.proofs.broken.cell_count.Goals as goal

pub returns : goal.returns
returns c = record { count = ap length c.own_cells-cells.ensures.cells ∙ own_cells_count c.args.scene.now.objects.now c.count-count.ensures.sound c.args.leaf.now c.requires.leaf }
