use Rattle.run_law.proofs.RunLaws.{run_leads, run_level, run_unit}
use Rattle.run_law.proofs.following.one_level_leads_back.Goals as goal

pub returns-clause-leads : goal.returns-clause-leads
returns-clause-leads c =
    run_leads c.args.g.now c.args.lines.now c.args.clause.now
    (record { well_made = c.requires.well_made; sets = c.know_lines.ensures; run = c.requires.run })
    c.literals.ensures.form c.requires.some

pub returns-clause-level : goal.returns-clause-level
returns-clause-level c k w =
    run_level c.args.g.now c.args.lines.now c.args.clause.now k
    (record { well_made = c.requires.well_made; sets = c.know_lines.ensures; run = c.requires.run })
    c.literals.ensures.form w

pub returns-clause-unit : goal.returns-clause-unit
returns-clause-unit c k w =
    run_unit c.args.g.now c.args.lines.now c.args.clause.now k
    (record { well_made = c.requires.well_made; sets = c.know_lines.ensures; run = c.requires.run })
    c.literals.ensures.form w
