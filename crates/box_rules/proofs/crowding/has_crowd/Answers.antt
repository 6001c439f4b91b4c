use Rattle.std.proofs.Common.{get_or, pos, refl}
use Rattle.box_rules.proofs.CrowdCounts.{crowd_hit, crowd_miss, crowd_end}
use Rattle.box_rules.proofs.crowding.has_crowd.Goals as goal

pub returns-then-has_crowd_from : goal.returns-then-has_crowd_from
returns-then-has_crowd_from c xs boxes e o =
    crowd_hit c.args.ends.now c.loop-p.p-index
    (get_or c.args.ends.now c.loop-p.p-index (pos 0, pos 0)) c.start_of.result.value
    c.has_crowd_from.result xs boxes e c.loop-p-test.true refl
    c.start_of.ensures (c.has_crowd_from.ensures xs boxes e o) c.if-has_crowd_from.true
    (c.loop-p.invariant xs boxes e o)

pub loop-p-preserved : goal.loop-p-preserved
loop-p-preserved c xs boxes e o =
    crowd_miss c.args.ends.now c.loop-p.p-index
    (get_or c.args.ends.now c.loop-p.p-index (pos 0, pos 0)) c.start_of.result.value
    c.has_crowd_from.result xs boxes e c.loop-p-test.true refl
    c.start_of.ensures (c.has_crowd_from.ensures xs boxes e o) c.if-has_crowd_from.false
    (c.loop-p.invariant xs boxes e o)

pub returns : goal.returns
returns c xs boxes e o = crowd_end c.args.ends.now c.loop-p.p-index xs boxes e c.loop-p-test.false
    (c.loop-p.invariant xs boxes e o)
