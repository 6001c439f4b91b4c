use Rattle.std.proofs.Common.{drop}
use Rattle.packed_rows.proofs.PlanLaws.{IsCounting}
use Rattle.packed_rows.proofs.plan.counts_same.Given as goal

abbrev pub invariant-loop-item : goal.invariant-loop-item
invariant-loop-item l = IsCounting l.boxes l.row.bin l.items l.row.loads.items (drop l.item-index l.items) l.rest
