use Rattle.std.proofs.Common.{[]}
use Rattle.form_build.proofs.Growth.{adds_nothing}
use Rattle.ground_expr.proofs.long_sums.short_test.Goals as goal

pub returns-then-not-is_long-clause-adds : goal.returns-then-not-is_long-clause-adds
returns-then-not-is_long-clause-adds c = adds_nothing [] c.args.m.now

pub returns-then-not-is_long-2-clause-adds : goal.returns-then-not-is_long-2-clause-adds
returns-then-not-is_long-2-clause-adds c = adds_nothing [] c.args.m.now

pub returns-in-Holds-clause-adds : goal.returns-in-Holds-clause-adds
returns-in-Holds-clause-adds c = adds_nothing [] c.args.m.now
