use Rattle.pack_prop.proofs.Collecting.{below_is}
use Rattle.pack_prop.proofs.collected.below.Goals as goal

pub returns-clause-values : goal.returns-clause-values
returns-clause-values c = below_is c.args.set.now c.from.result c.in_ok-rest.rest c.args.least.value c.ranges-2.ensures.valid c.from.ensures c.in_ok-rest.ensures.values
