use Rattle.log_check.proofs.Points.{goals_at}
use Rattle.log_check.proofs.progress.is_beating.Goals as goal

pub is_better-requires-clause-values : goal.is_better-requires-clause-values
is_better-requires-clause-values c = goals_at c.args.g.now.domains c.items.result.now c.args.g.now.goals c.args.values.now c.items.ensures c.requires.made.goals c.requires.point
