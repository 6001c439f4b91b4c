use Rattle.std.proofs.Common.{negsuc, refl}
use Rattle.signed_clause.specs.Clauses.{box_of}
use Rattle.box_view.proofs.EndLaws.{are_sets, ends_in_order}
use Rattle.linear_prop.proofs.FarValues.{var_named, over_alone, follows_below}
use Rattle.linear_prop.proofs.far.below_clause.Goals as goal

pub low_cause-cause-requires-clause-order : goal.low_cause-cause-requires-clause-order
low_cause-cause-requires-clause-order c = ends_in_order (box_of c.args.subject.boxes.now c.args.out) (are_sets c.args.subject.boxes.now c.requires.boxes.sets c.args.out)

pub clause_of-requires-clause-over : goal.clause_of-requires-clause-over
clause_of-requires-clause-over c =
    over_alone (negsuc 0) c.args.out c.args.subject.domains.now c.args.subject.boxes.now refl (var_named c.args.out c.args.terms.now c.args.offset c.args.subject.domains.now c.args.subject.boxes.now c.requires.well_made c.requires.boxes)
    c.requires.sets c.requires.boxes

pub clause_of-requires-clause-follows : goal.clause_of-requires-clause-follows
clause_of-requires-clause-follows c o f h =
    follows_below c.args.subject.con.now c.args.out c.args.terms.now c.args.offset c.of.result.value c.args.subject.domains.now o c.requires.con c.of.ensures.value c.requires.well_made c.requires.sets f h
