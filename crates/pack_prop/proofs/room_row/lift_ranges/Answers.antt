use Rattle.std.proofs.Common.{◌+ℤ◌, pos, arith}
use Rattle.pack_prop.proofs.RoomEntries.{lift_more}
use Rattle.pack_prop.proofs.room_row.lift_ranges.Goals as goal

pub loop-j-preserved : goal.loop-j-preserved
loop-j-preserved c = record {
  size = omega arith;
  row = λ e lt. lift_more c.args.ranges.now c.loop-j.j (c.args.first.value +ℤ pos e) c.args.high.value _ _ _ c.loop-j-test.true c.loop-j.invariant.upto (c.loop-j.invariant.row e lt) (c.lift_range.ensures.row e (omega arith));
  upto = omega arith;
}
