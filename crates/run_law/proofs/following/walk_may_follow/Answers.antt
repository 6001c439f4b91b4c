use Rattle.run_law.proofs.WalkLines.{walk_follows}
use Rattle.run_law.proofs.following.walk_may_follow.Goals as goal

pub returns : goal.returns
returns c =
    walk_follows c.args.g.now c.args.lines.now c.args.chain.now c.args.clause.now
    (record { well_made = c.requires.well_made; sets = c.know_lines.ensures; run = c.requires.run })
    (record {
      conflict = c.requires.conflict;
      walked = c.requires.walk;
      leads = c.requires.leads;
    })
