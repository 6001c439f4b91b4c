use Rattle.std.proofs.Common.{arith}
use Rattle.box_rules.proofs.CrowdCounts.{slot_le, total_set}
use Rattle.box_rules.proofs.crowding.bump.Goals as goal

pub overflow_add-slots : goal.overflow_add-slots
overflow_add-slots c = let size = c.told-slots in let le = slot_le c.in-Some.d c.args.slots.now in
    grind arith

pub returns-in-Some : goal.returns-in-Some
returns-in-Some c =
    record {
      totals = λ e. let size = c.told-slots in let set =
          total_set e c.in-Some.d c.args.slots.now in grind arith;
    }
