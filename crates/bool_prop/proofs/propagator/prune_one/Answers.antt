use Rattle.bool_prop.proofs.Asked.{parts_asked}
use Rattle.bool_prop.proofs.propagator.prune_one.Goals as goal

pub prune_conjunction-requires-clause-parts : goal.prune_conjunction-requires-clause-parts
prune_conjunction-requires-clause-parts c =
    parts_asked c.args.subject.con.now c.args.subject.domains.now c.in-AndDef.flag c.in-AndDef.parts c.items.result.now c.in-AndDef.is c.requires.well_made c.items.ensures
