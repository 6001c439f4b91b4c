use Rattle.std.proofs.Common.{◌∙◌, sym, subst}
use Rattle.root_boxes.specs.Following.{AreRootBoxes}
use Rattle.root_boxes.proofs.RootSteps.{root_start}
use Rattle.root_boxes.proofs.root.root_of.Goals as goal

pub go_on-requires-clause-boxes : goal.go_on-requires-clause-boxes
go_on-requires-clause-boxes c = subst (AreRootBoxes c.args.g.now) (sym (c.in_ok-copy_sets.ensures.list ∙ c.items.ensures)) (root_start c.args.g.now c.requires.well_made c.requires.some)
