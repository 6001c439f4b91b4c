use Rattle.std.proofs.Common.{[]}
use Rattle.pack_prop.proofs.RowLaws.{best_step}
use Rattle.pack_prop.proofs.room_row.bare_row.Goals as goal

pub loop-k-preserved : goal.loop-k-preserved
loop-k-preserved c boxes =
    best_step c.loop-k.k c.args.first.value c.value_from.result.value c.bare_at.result [] boxes c.loop-k.row.items c.push.new.self.items
    c.value_from.ensures c.bare_at.ensures c.in_ok-push.ensures.items (c.loop-k.invariant boxes)
