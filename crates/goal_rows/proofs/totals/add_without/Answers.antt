use Rattle.std.proofs.Common.{[]}
use Rattle.form_build.proofs.Growth.{adds_nothing}
use Rattle.goal_rows.proofs.totals.add_without.Goals as goal

pub returns-then-not-is_left_out : goal.returns-then-not-is_left_out
returns-then-not-is_left_out c = adds_nothing [] c.args.maker.now
