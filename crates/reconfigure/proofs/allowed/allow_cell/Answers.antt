use Rattle.reconfigure.proofs.NamedLaws.{number_adds, reference_adds}
use Rattle.reconfigure.proofs.allowed.allow_cell.Goals as goal

pub returns-in-Extent-clause-says : goal.returns-in-Extent-clause-says
returns-in-Extent-clause-says c =
    reference_adds c.args.objects.now c.args.failed.now c.requires.failed c.args.maker.now c.forbid.new.maker c.args.x c.in-Extent.class c.args.cell c.requires.cells c.requires.exists c.requires.cell c.in_default.is c.in-Extent.is c.in_ok-forbid.ensures.says

pub returns-clause-says : goal.returns-clause-says
returns-clause-says c =
    number_adds c.args.objects.now c.args.failed.now.numbers.items c.args.maker.now c.args.x c.in_default-domain.field-0 c.in_default-domain.field-1 c.args.cell c.in_default.is c.in_default-domain.is
