use Rattle.std.proofs.Common.{get_or, refl, arith}
use Rattle.std.proofs.lemmas.Int.{ints}
use Rattle.box_rules.proofs.PackLaws.{best_room-ge}
use Rattle.box_rules.proofs.PackSteps.{room_step, room_low}
use Rattle.box_rules.proofs.packing.best_room.Goals as goal

pub loop-i-init : goal.loop-i-init
loop-i-init g c =
    let low = best_room-ge c.args.at.value c.args.items.now (g.V.View.boxes c.args.view.now) in
    record { value = grind (arith, ints); low = omega (arith, ints) }

pub loop-i-preserved : goal.loop-i-preserved
loop-i-preserved g c = record {
  value = room_step c.args.at.value c.args.items.now (g.V.View.boxes c.args.view.now) c.loop-i.i-index (get_or c.args.items.now c.loop-i.i-index (0, 0, 0))
      c.loop-i.best.value c.with_room-best.result.value _ c.loop-i-test.true refl c.with_room-best.ensures c.loop-i.invariant.value;
  low = room_low _ _ _ _ c.with_room-best.ensures c.loop-i.invariant.low;
}
