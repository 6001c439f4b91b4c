use Rattle.std.proofs.Common.{[]}
use Rattle.form_build.proofs.Growth.{adds_nothing}
use Rattle.stated_costs.proofs.steps.steps_of.Goals as goal

pub returns-then-is_empty : goal.returns-then-is_empty
returns-then-is_empty c = adds_nothing [] c.args.maker.now

pub returns-then-g-domains : goal.returns-then-g-domains
returns-then-g-domains c = adds_nothing [] c.args.maker.now
