use Rattle.std.proofs.Common.{arith}
use Rattle.box_rules.proofs.CrowdCounts.{total_step}
use Rattle.box_rules.proofs.crowding.with_slot.Goals as goal

pub overflow_add-result : goal.overflow_add-result
overflow_add-result c = let size = c.told-slots in let step =
    total_step c.args.d c.args.slots.now in grind arith

pub returns : goal.returns
returns c = let size = c.told-slots in let step =
    total_step c.args.d c.args.slots.now (omega arith) in let sum = c.requires.sum in omega arith
