use Rattle.run_law.proofs.Below.{run_fixpoints}
use Rattle.run_law.proofs.laws.run_leaves.Goals as goal

pub returns-clause-below : goal.returns-clause-below
returns-clause-below c = run_fixpoints c.args.g.now c.args.lines.now c.requires.run
