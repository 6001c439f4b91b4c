use Rattle.std.proofs.Common.{◌+ℤ◌, pos, arith}
use Rattle.pack_prop.proofs.BestRows.{ranges_step}
use Rattle.pack_prop.proofs.best_rooms.raise_ranges.Goals as goal

pub loop-j-preserved : goal.loop-j-preserved
loop-j-preserved c = record {
  size = omega arith;
  rows = λ d e lt. ranges_step c.args.ranges.now c.loop-j.j (c.args.first.value +ℤ pos e) c.args.more.room.value c.args.more.stays _ _ _ c.requires.valid c.loop-j-test.true c.loop-j.invariant.upto
      (c.loop-j.invariant.rows d e lt) (c.raise_range.ensures.rows d e (omega arith));
  upto = omega arith;
}
