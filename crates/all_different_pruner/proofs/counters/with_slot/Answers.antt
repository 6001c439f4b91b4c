use Rattle.std.proofs.Common.{arith}
use Rattle.all_different_pruner.proofs.Totals.{total_step}
use Rattle.all_different_pruner.proofs.counters.with_slot.Goals as goal

pub overflow_add-result : goal.overflow_add-result
overflow_add-result c = let step = total_step c.args.d c.args.slots.now in grind arith

pub returns : goal.returns
returns c = let step = total_step c.args.d c.args.slots.now c.requires.within in let sum = c.requires.sum in omega arith
