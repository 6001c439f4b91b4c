use Rattle.std.proofs.Common.{◌∙◌, sym, arith}
use Rattle.view_leaves.proofs.PathOrder.{goes_on_left, goes_on_right}
use Rattle.view_leaves.proofs.path.path_order.Goals as goal

pub returns-then-i-right : goal.returns-then-i-right
returns-then-i-right c =
    sym (goes_on_left c.args.left.now c.args.right.now c.loop-i.i c.loop-i-test.true
    c.if-i-right.true) ∙ c.loop-i.invariant.1

pub returns-then-left-right : goal.returns-then-left-right
returns-then-left-right c =
    sym (goes_on_right c.args.left.now c.args.right.now c.loop-i.i c.loop-i-test.false
    (omega (arith, c.loop-i.auto.i-end, c.if-left-right.true))) ∙ c.loop-i.invariant.1
