use Rattle.branch_choice.proofs.SetSplits.{single_law}
use Rattle.branch_choice.proofs.halves.is_single.Goals as goal

pub returns : goal.returns
returns c = single_law c.args.set.now c.is_single.result c.is_single.ensures
