use Rattle.log_check.proofs.ChainSteps.{same_is}
use Rattle.log_check.proofs.chains.is_same.Goals as goal

pub returns : goal.returns
returns c = same_is c.same.result c.args.c.now c.args.d.now c.same.ensures
