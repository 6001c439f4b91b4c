use Rattle.std.proofs.Common.{[]}
use Rattle.form_build.proofs.Growth.{adds_nothing}
use Rattle.goal_rows.proofs.adding.add_for_sum.Goals as goal

pub returns-then-not-has_small_values : goal.returns-then-not-has_small_values
returns-then-not-has_small_values c = adds_nothing [] c.args.maker.now
