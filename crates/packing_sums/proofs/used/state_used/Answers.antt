use Rattle.std.proofs.Common.{[]}
use Rattle.form_build.proofs.Growth.{adds_nothing}
use Rattle.packing_sums.proofs.used.state_used.Goals as goal

pub returns-in-None : goal.returns-in-None
returns-in-None c = adds_nothing [] c.args.maker.now
