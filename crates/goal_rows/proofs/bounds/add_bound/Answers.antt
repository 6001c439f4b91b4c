use Rattle.std.proofs.Common.{[]}
use Rattle.form_build.proofs.Growth.{adds_nothing}
use Rattle.goal_rows.proofs.bounds.add_bound.Goals as goal

pub returns-then-not-is_row_over : goal.returns-then-not-is_row_over
returns-then-not-is_row_over c = adds_nothing [] c.args.maker.now

pub returns-in_default : goal.returns-in_default
returns-in_default c = adds_nothing [] c.args.maker.now
