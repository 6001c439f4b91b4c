use Rattle.root_boxes.proofs.RootSteps.{follows_alone}
use Rattle.root_boxes.proofs.root.step.Goals as goal

pub take_clause-requires-clause-follows : goal.take_clause-requires-clause-follows
take_clause-requires-clause-follows c = follows_alone c.args.g.now c.args.boxes.now.items c.as_slice.result.now c.in_ok-clause.field-0 c.args.k c.in-Some.clause c.requires.well_made c.as_slice.ensures.value c.in-Some.is c.requires.con c.in_ok-clause.ensures.pruning
