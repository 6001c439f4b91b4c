use Rattle.std.proofs.Common.{sym, ◌∙◌}
use Rattle.view_steps.proofs.ListLaws.{allowed_next, allowed_not}
use Rattle.view_steps.proofs.rooms.all_allowed.Goals as goal

pub loop-number-preserved : goal.loop-number-preserved
loop-number-preserved c =
    allowed_next c.args.rooms.now c.args.amounts.now c.loop-number.number _ c.loop-number-test.true
    (sym c.allowed_at.ensures ∙ c.if-not-allowed_at.false) c.loop-number.invariant

pub returns-then-not-allowed_at : goal.returns-then-not-allowed_at
returns-then-not-allowed_at c =
    allowed_not c.args.rooms.now c.args.amounts.now c.loop-number.number _ c.loop-number-test.true
    (sym c.allowed_at.ensures ∙ c.if-not-allowed_at.true) c.loop-number.invariant
