use Rattle.std.proofs.Common.{◌≡◌, take}
use Rattle.ground_model.specs.Sizes.{each_once}
use Rattle.ground_model.proofs.sets.surplus.Given as goal

abbrev pub invariant-loop-cell : goal.invariant-loop-cell
invariant-loop-cell l = l.terms.items ≡ each_once (take l.cell-index l.cells)
