use Rattle.std.proofs.Common.{◌++◌, ◌+◌, drop, ap, ◌∙◌}
use Rattle.view_steps.specs.Rooms.{all_taken}
use Rattle.view_steps.proofs.ListLaws.{taken_next}
use Rattle.view_steps.proofs.rooms.all_taken.Goals as goal

pub loop-number-preserved : goal.loop-number-preserved
loop-number-preserved c =
    let n = c.loop-number.number in
    ap (λ xs. xs ++ all_taken (drop (n + 1) c.args.rooms.now) (drop (n + 1) c.args.amounts.now))
    c.in_ok-push.ensures.items
    ∙ taken_next c.args.rooms.now c.args.amounts.now n c.in_ok-room.room c.loop-number.left.items _
    c.loop-number-test.true c.in_ok-room.ensures c.loop-number.invariant
