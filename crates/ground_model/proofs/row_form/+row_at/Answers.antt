use Rattle.std.proofs.Common.{[]}
use Rattle.form_build.proofs.Growth.{adds_nothing}
use Rattle.ground_model.proofs.row_form.+row_at.Goals as goal

pub returns-in_default-op : goal.returns-in_default-op
returns-in_default-op t c = record { row = tt; adds = adds_nothing [] c.args.maker.now }

pub returns-in_default : goal.returns-in_default
returns-in_default t c = record { row = tt; adds = adds_nothing [] c.args.maker.now }
