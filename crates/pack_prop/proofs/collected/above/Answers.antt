use Rattle.pack_prop.proofs.Collecting.{above_is}
use Rattle.pack_prop.proofs.collected.above.Goals as goal

pub returns-clause-values : goal.returns-clause-values
returns-clause-values c = above_is c.args.set.now c.upto.result c.in_ok-rest.rest c.args.most.value c.ranges-2.ensures.valid c.upto.ensures c.in_ok-rest.ensures.values
