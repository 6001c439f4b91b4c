use Rattle.std.proofs.Common.{rules}
use Rattle.branch_choice.proofs.Walking.{hint_none, hint_single}
use Rattle.branch_choice.proofs.orders.former.Goals.{then-not-is_decided+in_default, else-not-is_decided}
use Rattle.branch_choice.proofs.orders.former.Goals as goal

pub loop-x-preserved : goal.loop-x-preserved
loop-x-preserved c =
    let h = c.loop-x.invariant in
    elim c.if-not-is_decided.branch [
      | then-not-is_decided+in_default w ↦ hint_none _ _ _ _ _ h (search rules) (search rules)
      | else-not-is_decided w ↦ hint_single _ _ _ _ _ h (search rules) w.undecided-is
    ]
