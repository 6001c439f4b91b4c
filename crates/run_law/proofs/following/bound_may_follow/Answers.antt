use Rattle.run_law.proofs.BoundLines.{bound_follows, bound_ends}
use Rattle.run_law.proofs.following.bound_may_follow.Goals as goal

pub returns-clause-run : goal.returns-clause-run
returns-clause-run c =
    bound_follows c.args.g.now c.args.lines.now c.args.found.now c.args.values.now
    (record { well_made = c.requires.well_made; sets = c.know_lines.ensures; run = c.requires.run })
    (record {
      at_found = c.requires.at_found;
      found = c.requires.found;
      values_are = c.requires.values;
    })

pub returns-clause-ends : goal.returns-clause-ends
returns-clause-ends c single =
    bound_ends c.args.g.now c.args.lines.now c.args.found.now c.args.values.now
    (record { well_made = c.requires.well_made; sets = c.know_lines.ensures; run = c.requires.run })
    (record {
      at_found = c.requires.at_found;
      found = c.requires.found;
      values_are = c.requires.values;
    })
    single
