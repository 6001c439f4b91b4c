use Rattle.run_law.proofs.RunLaws.{run_conflict}
use Rattle.run_law.proofs.laws.run_reaches.Goals as goal

pub returns-clause-conflict : goal.returns-clause-conflict
returns-clause-conflict c n e =
    run_conflict c.args.g.now c.args.lines.now n
    (record { well_made = c.requires.well_made; sets = c.know_lines.ensures; run = c.requires.run })
    e
