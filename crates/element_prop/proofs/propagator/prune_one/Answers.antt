use Rattle.element_prop.proofs.ElementLaws.{element_named}
use Rattle.element_prop.proofs.propagator.prune_one.Goals as goal

pub prune_element-requires-clause-index : goal.prune_element-requires-clause-index
prune_element-requires-clause-index c =
    (element_named c.args.con.now c.args.domains.now c.in-ElementDef.out c.in-ElementDef.index c.in-ElementDef.items c.items.result.now c.in-ElementDef.is c.requires.well_made c.items.ensures).0

pub prune_element-requires-clause-items : goal.prune_element-requires-clause-items
prune_element-requires-clause-items c =
    (element_named c.args.con.now c.args.domains.now c.in-ElementDef.out c.in-ElementDef.index c.in-ElementDef.items c.items.result.now c.in-ElementDef.is c.requires.well_made c.items.ensures).1
