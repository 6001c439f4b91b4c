use Rattle.std.proofs.Common.{arith, suc, pos, ◌<◌, ◌+ℤ◌}
use Rattle.box_rules.specs.Crowding.{count_ends}
use Rattle.box_rules.proofs.CrowdCounts.{ends_at_most, crowd_found, crowd_missing}
use Rattle.box_rules.proofs.crowding.has_crowd_from.Goals as goal

pub with_slot-sum-requires-clause-room : goal.with_slot-sum-requires-clause-room
with_slot-sum-requires-clause-room c =
    let few = c.requires in let here = c.loop-d-test.true in
    let is = c.slots_from-slots.ensures c.loop-d.d (omega arith) in
    let most = ends_at_most c.args.a.value (c.args.a.value +ℤ pos c.loop-d.d) c.args.ends.now in
    omega arith

pub returns-then-d-sum : goal.returns-then-d-sum
returns-then-d-sum c xs boxes e o =
    let few = c.requires in let here = c.loop-d-test.true in
    let is = c.slots_from-slots.ensures c.loop-d.d (omega arith) in
    let sum = c.with_slot-sum.ensures in let more = c.if-d-sum.true in
    let many : suc c.loop-d.d < count_ends c.args.a.value (c.args.a.value +ℤ pos c.loop-d.d)
    c.args.ends.now = omega arith in
    crowd_found c.args.a.value c.loop-d.d c.args.ends.now xs boxes many e o

pub returns : goal.returns
returns c xs boxes e o =
    let few = c.requires in let done = c.loop-d-test.false in
    crowd_missing c.args.a.value c.args.ends.now xs boxes
    (λ d lt. let is = c.slots_from-slots.ensures d (omega arith) in let most =
    c.loop-d.invariant.few d (omega arith) in omega arith) e
