use Rattle.std.proofs.Common.{[]}
use Rattle.form_build.specs.Forms.{truth_at}
use Rattle.form_build.proofs.Growth.{world_before, adds_nothing}
use Rattle.identity_forms.proofs.SameLaws.{same_cells}
use Rattle.identity_forms.proofs.same.same_as_cell.Goals as goal

pub returns-in_ok-t-in-Fixed-clause-adds : goal.returns-in_ok-t-in-Fixed-clause-adds
returns-in_ok-t-in-Fixed-clause-adds c = adds_nothing [] c.args.maker.now

pub returns-in_ok-t-in-Cell-clause-value : goal.returns-in_ok-t-in-Cell-clause-value
returns-in_ok-t-in-Cell-clause-value c a w =
    let before = world_before c.args.maker.now c.same_values.new.maker a c.in_ok-t-in-Cell.ensures.adds.grows w in
    same_cells c.args.maker.now.domains c.args.c.now c.args.d.now c.args.x c.in-Cell.y a (truth_at c.in_ok-t-in-Cell.t a) c.requires.cell c.in-Cell.is c.requires.left c.requires.right before.within (c.in_ok-t-in-Cell.ensures.value a w)
