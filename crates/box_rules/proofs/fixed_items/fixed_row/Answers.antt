use Rattle.std.proofs.Common.{take, get_or, refl, arith}
use Rattle.box_rules.proofs.LoadRows.{fixed_step}
use Rattle.box_rules.proofs.fixed_items.fixed_row.Goals as goal

pub loop-i-preserved : goal.loop-i-preserved
loop-i-preserved g c =
    let most = c.loop-i.invariant.most in let more = c.with_item-count.ensures.most in
    record {
      most = omega arith;
      row = fixed_step (take c.loop-i.count c.loop-i.row)
          (take c.with_item-count.result c.with_item-count.new.row) _
          c.args.items.now (g.V.View.boxes c.args.view.now) c.loop-i.i-index
          (get_or c.args.items.now c.loop-i.i-index (0, 0, 0))
          c.loop-i-test.true refl c.with_item-count.ensures.row c.loop-i.invariant.row;
    }
