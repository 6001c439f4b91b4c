use Rattle.std.proofs.Common.{length}
use Rattle.goal_rows.proofs.PartLaws.{some_fit}
use Rattle.goal_rows.proofs.parts.packing_among.Goals as goal

pub with_items-requires-clause-exist : goal.with_items-requires-clause-exist
with_items-requires-clause-exist c = c.in_ok-items.ensures.exist (length c.args.maker.now.domains) c.requires.exist

pub with_items-requires-clause-fits : goal.with_items-requires-clause-fits
with_items-requires-clause-fits c = some_fit c.args.maker.now c.args.p.now.room c.args.p.now.items.items c.in_ok-items.items.items c.in_ok-items.ensures c.requires.fits
