use Rattle.std.proofs.Common.{[]}
use Rattle.form_build.proofs.Growth.{adds_nothing}
use Rattle.goal_rows.proofs.totals.add_total.Goals as goal

pub returns-then-group-lt2 : goal.returns-then-group-lt2
returns-then-group-lt2 c = adds_nothing [] c.args.maker.now

pub returns-in-None : goal.returns-in-None
returns-in-None c = adds_nothing [] c.args.maker.now
