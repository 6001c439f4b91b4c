use Rattle.std.proofs.Common.{[]}
use Rattle.form_build.proofs.Growth.{adds_nothing}
use Rattle.packing_sums.proofs.used.add_used.Goals as goal

pub returns-then-is_empty : goal.returns-then-is_empty
returns-then-is_empty c = adds_nothing [] c.args.maker.now

pub returns-in_default : goal.returns-in_default
returns-in_default c = adds_nothing [] c.args.maker.now
