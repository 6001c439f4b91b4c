use Rattle.std.proofs.Common.{get_or, refl, arith}
use Rattle.std.proofs.lemmas.Int.{ints}
use Rattle.pack_fit.proofs.PackWalks.{tight_upto, tight_step, tight_high}
use Rattle.pack_fit.proofs.loads.tight_at.Goals as goal

pub loop-i-init : goal.loop-i-init
loop-i-init c =
    let high = tight_upto c.args.at.value c.args.items.now c.args.boxes.now in
    record { value = grind (arith, ints); high = omega (arith, ints) }

pub loop-i-preserved : goal.loop-i-preserved
loop-i-preserved c = record {
  value = tight_step c.args.at.value c.args.items.now c.args.boxes.now c.loop-i.i-index (get_or c.args.items.now c.loop-i.i-index (0, 0, 0))
      c.loop-i.tight.value c.with_tight-tight.result.value _ c.loop-i-test.true refl c.with_tight-tight.ensures c.loop-i.invariant.value;
  high = tight_high _ _ _ _ c.with_tight-tight.ensures c.loop-i.invariant.high;
}
