use Rattle.std.proofs.Common.{[]}
use Rattle.form_build.proofs.Growth.{adds_nothing}
use Rattle.stated_cases.proofs.tables.state_step.Goals as goal

pub returns-then-is_idle : goal.returns-then-is_idle
returns-then-is_idle c = adds_nothing [] c.args.maker.now

pub returns-in_default : goal.returns-in_default
returns-in_default c = adds_nothing [] c.args.maker.now
