use Rattle.object_alloc.proofs.PartFound.{none_left}
use Rattle.object_alloc.proofs.spots.search.Goals as goal

pub unreachable-requires : goal.unreachable-requires
unreachable-requires c = none_left c.args.objects.now c.args.spot.owner c.args.spot.attribute c.args.spot.element c.loop-n.n c.loop-n.invariant c.loop-n-test.false c.requires.part
