use Rattle.std.proofs.Common.{rules}
use Rattle.view_picture.proofs.PartLaws.{parts_listed}
use Rattle.view_picture.proofs.ways.parts.Goals as goal

pub loop-number-preserved : goal.loop-number-preserved
loop-number-preserved c =
    parts_listed c.args.leaves.now c.loop-number.number c.known.result c.index-leaves-number.result
    c.deref.result.now c.loop-number.list.items c.push_ways.new.parts.items _ c.loop-number-test.true
    c.index-leaves-number.is (search rules) c.known.ensures c.in_ok-push_ways.ensures
    c.loop-number.invariant
