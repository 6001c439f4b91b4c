use Rattle.std.proofs.Common.{◌∙◌, ap}
use Rattle.conf_eval.specs.Meaning.{first_object}
use Rattle.reference_forms.proofs.CellLaws.{cell_is}
use Rattle.reference_forms.proofs.attributes.cell_of.Goals as goal

pub returns : goal.returns
returns c =
    record { cell = λ values e. cell_is c.args.objects.now c.args.maker.now c.args.owner c.args.k c.args.shape _ values c.count-count.ensures.sound c.requires.shape c.requires.cells (c.first.ensures ∙ ap first_object c.own_cells.ensures.cells) e }
