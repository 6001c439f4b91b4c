use Rattle.std.proofs.Common.{get_or, pos, refl, arith}
use Rattle.std.proofs.lemmas.Int.{ints}
use Rattle.box_rules.proofs.LoadRows.{size_step}
use Rattle.box_rules.proofs.fixed_items.load_at.Goals as goal

pub loop-p-preserved : goal.loop-p-preserved
loop-p-preserved c = record {
  value = size_step c.args.bin.0 c.args.row.now c.loop-p.p-index
      (get_or c.args.row.now c.loop-p.p-index (pos 0, pos 0, pos 0))
      c.loop-p.load.value c.with_size-load.result.value _ c.loop-p-test.true refl
      c.with_size-load.ensures.load c.loop-p.invariant.value;
  low = omega (arith, ints, c.with_size-load.ensures.low, c.loop-p.invariant.low);
  high = omega (arith, ints, c.with_size-load.ensures.high, c.loop-p.invariant.high);
}
