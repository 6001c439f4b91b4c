use Rattle.std.proofs.Common.{◌∙◌, sym, subst}
use Rattle.object_alloc.specs.Walk.{objects}
use Rattle.ground_cells.specs.CellBoxes.{AscendFrom}
use Rattle.ground_cells.proofs.NumberRanges.{extent_ascends}
use Rattle.ground_cells.proofs.cells.extent_set.Goals as goal

-- src/cells.rt:31:15
pub number_set-requires : goal.number_set-requires
number_set-requires c =
    record { ascend = subst (AscendFrom 0) (sym (c.items.ensures.items ∙ c.in_ok-numbers.ensures.extent)) (extent_ascends c.args.objects.now.classes c.args.class 0 (objects c.args.objects.now)) }
