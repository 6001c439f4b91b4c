use Rattle.std.proofs.Common.{get_or, refl, arith, ◌∙◌}
use Rattle.std.proofs.Math.ListN.{length-set}
use Rattle.box_rules.proofs.CrowdCounts.{row_step, order_step}
use Rattle.box_rules.proofs.crowding.ends_row.Goals as goal

pub loop-i-preserved : goal.loop-i-preserved
loop-i-preserved g c =
    let size = c.loop-i.invariant.size in let few = c.requires.few in let here =
    c.loop-i-test.true in
    record {
      size = length-set _ _ _ ∙ size;
      row = row_step c.loop-i.row c.loop-i.i (get_or c.args.vars.now c.loop-i.i 0) c.ends.result
          c.args.vars.now (g.V.View.boxes c.args.view.now) _ (omega arith) here refl
          c.ends.ensures.ends c.loop-i.invariant.row;
      order = λ rest. c.loop-i.invariant.order
          (order_step c.loop-i.i (get_or c.args.vars.now c.loop-i.i 0) c.args.vars.now
          (g.V.View.boxes c.args.view.now) here refl c.ends.ensures.order rest);
    }
