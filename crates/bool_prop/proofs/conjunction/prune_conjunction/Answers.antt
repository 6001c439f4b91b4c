use Rattle.std.proofs.Common.{false}
use Rattle.bool_prop.proofs.Asked.{asked, part_asked}
use Rattle.bool_prop.proofs.conjunction.prune_conjunction.Goals as goal

pub find-requires : goal.find-requires
find-requires c = record {
  scene = (asked c.args.subject.con.now c.args.subject.domains.now c.args.subject.boxes.now c.args.flag c.args.parts.now c.requires.is c.requires.well_made c.requires.boxes c.requires.sets).scene;
}

pub explain_part-requires-clause-reason : goal.explain_part-requires-clause-reason
explain_part-requires-clause-reason c =
    let con = c.args.subject.con.now in let domains = c.args.subject.domains.now in let boxes = c.args.subject.boxes.now in
    let said = c.in-Part.ensures in
    part_asked con domains boxes c.args.flag c.args.parts.now c.in-Part.i (0, false)
    (asked con domains boxes c.args.flag c.args.parts.now c.requires.is c.requires.well_made c.requires.boxes c.requires.sets) said.0 (said.1 (0, false))
