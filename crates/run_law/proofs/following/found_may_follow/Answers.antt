use Rattle.run_law.proofs.FoundLines.{found_follows}
use Rattle.run_law.proofs.following.found_may_follow.Goals as goal

pub returns : goal.returns
returns c =
    found_follows c.args.g.now c.args.lines.now c.args.values.now
    (record { well_made = c.requires.well_made; sets = c.know_lines.ensures; run = c.requires.run })
    (record {
      going = c.requires.going;
      settled = c.requires.settled;
      is_quiet = c.requires.quiet;
      single = c.requires.single;
      solution = c.requires.solution;
    })
