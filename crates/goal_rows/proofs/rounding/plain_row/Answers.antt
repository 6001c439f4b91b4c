use Rattle.std.proofs.Common.{arith}
use Rattle.goal_rows.proofs.rounding.plain_row.Goals as goal

pub returns : goal.returns
returns c = record { linear = c.requires.linear; adds = λ e. c.requires.follows; takes = λ e. absurd (grind (arith, e)) }
