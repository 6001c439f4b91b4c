use Rattle.std.proofs.Common.{[]}
use Rattle.form_build.proofs.Growth.{adds_nothing}
use Rattle.goal_rows.proofs.bounds.add_by_row.Goals as goal

pub returns-in_default : goal.returns-in_default
returns-in_default c = adds_nothing [] c.args.maker.now

pub returns-in_default-2 : goal.returns-in_default-2
returns-in_default-2 c = adds_nothing [] c.args.maker.now

pub returns-then-items-ne1 : goal.returns-then-items-ne1
returns-then-items-ne1 c = adds_nothing [] c.args.maker.now
