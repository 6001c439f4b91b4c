use Rattle.std.proofs.Common.{suc}
use Rattle.box_rules.proofs.CrowdCounts.{none_few, none_more}
use Rattle.box_rules.proofs.crowding.slots_from.Goals as goal

pub loop-p-init : goal.loop-p-init
loop-p-init c = record { few = λ e. none_few (suc e) 64; totals = λ e lt. none_more (suc e) 64 _ }
