use Rattle.std.proofs.Common.{arith}
use Rattle.pack_fit.proofs.SurveyCounts.{begun_once, ended_once, begun_more, ended_more}
use Rattle.std.proofs.Common.{◌+ℤ◌, pos}
use Rattle.pack_fit.proofs.survey.count_ranges.Goals as goal

pub count_range-requires-clause-begun_room : goal.count_range-requires-clause-begun_room
count_range-requires-clause-begun_room c e lt q =
    let none = begun_once c.args.ranges.now c.loop-j.j (c.args.first.value +ℤ pos e) c.requires.valid c.loop-j-test.true c.loop-j.invariant.upto q in
    let now = c.loop-j.invariant.begun e (omega arith) in let room = c.requires.begun_room e (omega arith) in omega arith

pub count_range-requires-clause-ended_room : goal.count_range-requires-clause-ended_room
count_range-requires-clause-ended_room c e lt q =
    let none = ended_once c.args.ranges.now c.loop-j.j (c.args.first.value +ℤ pos e) c.requires.valid c.loop-j-test.true c.loop-j.invariant.upto q in
    let now = c.loop-j.invariant.ended e (omega arith) in let room = c.requires.ended_room e (omega arith) in omega arith

pub loop-j-preserved : goal.loop-j-preserved
loop-j-preserved c = record {
  begun_size = omega arith;
  ended_size = omega arith;
  begun = λ e lt. begun_more c.args.ranges.now c.loop-j.j (c.args.first.value +ℤ pos e) _ _ _ c.loop-j-test.true c.loop-j.invariant.upto (c.count_range.ensures.begun e (omega arith)) (c.loop-j.invariant.begun e lt);
  ended = λ e lt. ended_more c.args.ranges.now c.loop-j.j (c.args.first.value +ℤ pos e) _ _ _ c.loop-j-test.true c.loop-j.invariant.upto (c.count_range.ensures.ended e (omega arith)) (c.loop-j.invariant.ended e lt);
  upto = omega arith;
}
