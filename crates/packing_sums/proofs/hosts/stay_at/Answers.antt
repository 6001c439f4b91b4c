use Rattle.std.proofs.Common.{get_or, refl}
use Rattle.packing_sums.proofs.HostLaws.{stay_step}
use Rattle.packing_sums.proofs.hosts.stay_at.Goals as goal

pub loop-s-preserved : goal.loop-s-preserved
loop-s-preserved c =
    stay_step c.args.boxes.now c.args.vars.now c.args.bin c.loop-s.s-index c.args.items.now (get_or c.args.items.now c.loop-s.s-index (0, 0)) (0, 0) c.loop-s.sum c.stays_at.result c.in_ok-sum.sum
    c.loop-s-test.true refl c.in_ok-sum.ensures c.stays_at.ensures c.loop-s.invariant
