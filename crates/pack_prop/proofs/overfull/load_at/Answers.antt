use Rattle.std.proofs.Common.{get_or, refl, arith}
use Rattle.std.proofs.lemmas.Int.{ints}
use Rattle.box_rules.proofs.PackSteps.{load_step}
use Rattle.pack_prop.specs.Sources.{with_part}
use Rattle.pack_prop.proofs.overfull.load_at.Goals as goal

pub loop-i-preserved : goal.loop-i-preserved
loop-i-preserved c = record {
  value = load_step c.args.at.value c.args.tried.items.now (with_part c.args.tried.boxes.now c.args.tried.x c.args.tried.part.now) c.loop-i.i-index (get_or c.args.tried.items.now c.loop-i.i-index (0, 0, 0))
      c.loop-i.load.value c.with_load-load.result.value _ c.loop-i-test.true refl c.with_load-load.ensures.load c.loop-i.invariant.value;
  low = omega (arith, ints, c.with_load-load.ensures.low, c.loop-i.invariant.low);
  high = omega (arith, ints, c.with_load-load.ensures.high, c.loop-i.invariant.high);
}
