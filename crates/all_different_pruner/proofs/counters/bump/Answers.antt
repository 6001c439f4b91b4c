use Rattle.std.proofs.Common.{arith}
use Rattle.all_different_pruner.proofs.Totals.{slot_le, total_set}
use Rattle.all_different_pruner.proofs.counters.bump.Goals as goal

pub overflow_add-slots : goal.overflow_add-slots
overflow_add-slots c = let le = slot_le c.in-Some.d c.args.slots.now in grind arith

pub returns-in-Some-clause-totals : goal.returns-in-Some-clause-totals
returns-in-Some-clause-totals c e = let set = total_set e c.in-Some.d c.args.slots.now in grind arith
