use Rattle.rule_law.proofs.ProbeLaws.{boxes_named, boxes_bounded, quiet_from}
use Rattle.rule_law.proofs.probing.probe.Goals as goal

pub refutes-requires-clause-bounded : goal.refutes-requires-clause-bounded
refutes-requires-clause-bounded c = boxes_bounded c.args.con.now c.args.domains.now c.args.boxes.now c.requires.boxes c.requires.sets c.requires.well_made

pub are_all_quiet-requires-clause-named : goal.are_all_quiet-requires-clause-named
are_all_quiet-requires-clause-named c = boxes_named c.args.con.now c.args.domains.now c.args.boxes.now c.requires.boxes c.requires.well_made

pub are_all_quiet-requires-clause-bounded : goal.are_all_quiet-requires-clause-bounded
are_all_quiet-requires-clause-bounded c = boxes_bounded c.args.con.now c.args.domains.now c.args.boxes.now c.requires.boxes c.requires.sets c.requires.well_made

pub returns-then-are_all_quiet : goal.returns-then-are_all_quiet
returns-then-are_all_quiet c =
    record { answer = quiet_from c.args.con.now c.args.boxes.now _ _ c.refutes.ensures c.if-refutes.false c.are_all_quiet.ensures c.if-are_all_quiet.true }
