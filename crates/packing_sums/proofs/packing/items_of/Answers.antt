use Rattle.std.proofs.Common.{get_or, refl}
use Rattle.packing_sums.proofs.PackingLaws.{items_step}
use Rattle.packing_sums.proofs.packing.items_of.Goals as goal

pub loop-i-preserved : goal.loop-i-preserved
loop-i-preserved c =
    items_step c.args.boxes.now c.args.room c.loop-i.i-index c.args.items.now c.loop-i.out.items c.push.new.self.items (get_or c.args.items.now c.loop-i.i-index (0, 0, 0)) (0, 0, 0) c.in-Some.s
    c.loop-i-test.true refl c.in_ok-push-in-Some.ensures.items c.in-Some.ensures c.loop-i.invariant
