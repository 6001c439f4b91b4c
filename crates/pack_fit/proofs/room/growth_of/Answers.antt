use Rattle.std.proofs.Common.{get_or, refl, arith}
use Rattle.std.proofs.lemmas.Int.{ints}
use Rattle.pack_fit.proofs.PackTotal.{growth_ge}
use Rattle.pack_fit.proofs.PackWalks.{growth_step, growth_low}
use Rattle.pack_fit.proofs.room.growth_of.Goals as goal

pub loop-i-init : goal.loop-i-init
loop-i-init c = let low = growth_ge c.args.items.now c.args.boxes.now in record { value = grind (arith, ints); low = omega (arith, ints) }

pub loop-i-preserved : goal.loop-i-preserved
loop-i-preserved c = record {
  value = growth_step c.args.items.now c.args.boxes.now c.loop-i.i-index (get_or c.args.items.now c.loop-i.i-index (0, 0, 0))
      c.loop-i.most.value c.with_growth-most.result.value _ c.loop-i-test.true refl c.with_growth-most.ensures c.loop-i.invariant.value;
  low = growth_low _ _ _ c.with_growth-most.ensures c.loop-i.invariant.low;
}
