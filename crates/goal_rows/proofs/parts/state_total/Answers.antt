use Rattle.std.proofs.Common.{[]}
use Rattle.form_build.proofs.Growth.{adds_nothing}
use Rattle.goal_rows.proofs.parts.state_total.Goals as goal

pub returns : goal.returns
returns c = adds_nothing [] c.args.maker.now
