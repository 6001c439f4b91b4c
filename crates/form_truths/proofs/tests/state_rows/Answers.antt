use Rattle.std.proofs.Common.{◌^◌, ◌*◌, arith}
use Rattle.form_build.proofs.Linears.{linear_more, numbers_within}
use Rattle.form_build.proofs.Keeping.{linear_kept}
use Rattle.form_truths.proofs.Stating.{rows_say}
use Rattle.form_truths.proofs.tests.state_rows.Goals as goal

pub times-requires : goal.times-requires
times-requires c = record { numbers = numbers_within c.args.m.now.domains (2 ^ 60) (2 ^ 62) c.args.f.now (omega arith) c.requires.linear }

pub state_row-requires-2-clause-linear : goal.state_row-requires-2-clause-linear
state_row-requires-2-clause-linear c =
    linear_kept (2 ^ 60) c.args.m.now c.state_row.new.m c.in_ok-less.less c.in_ok-state_row.ensures.says.grows
    (linear_more (1 * 2 ^ 60) (2 ^ 60) c.args.m.now.domains c.in_ok-less.less (omega arith) (c.in_ok-less.ensures.linear c.args.m.now.domains (2 ^ 60) c.requires.linear))

pub returns-clause-says : goal.returns-clause-says
returns-clause-says c = rows_say c.args.m.now c.state_row.new.m c.state_row-2.new.m c.args.f.now c.in_ok-less.less c.in_ok-state_row.ensures.says c.in_ok-state_row-2.ensures.says c.in_ok-less.ensures.value
