use Rattle.ground_cells.proofs.Points.{cells_agree}
use Rattle.ground_cells.proofs.cells.configurations_are_points.Goals as goal

pub returns : goal.returns
returns c = record { points = cells_agree c.args.objects.now }
