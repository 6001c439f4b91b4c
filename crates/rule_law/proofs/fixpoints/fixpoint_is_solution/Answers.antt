use Rattle.rule_law.proofs.Fixpoint.{fixpoint_solved}
use Rattle.rule_law.proofs.fixpoints.fixpoint_is_solution.Goals as goal

pub returns : goal.returns
returns c =
    let solved = fixpoint_solved c.args.g.now c.args.boxes.now (record {
      well_made = c.requires.well_made;
      size = c.requires.size;
      within = c.requires.within;
      some = c.requires.some;
      sets = c.requires.sets;
      all_quiet = c.requires.quiet;
      decided = c.requires.decided;
    }) in
    record { single = solved.single; values = solved.values; solution = solved.solution }
