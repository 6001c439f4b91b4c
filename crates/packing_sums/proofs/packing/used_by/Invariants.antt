use Rattle.std.proofs.Common.{take}
use Rattle.std.specs.List.{All}
use Rattle.packing_sums.specs.Packings.{IsUsed}
use Rattle.packing_sums.proofs.packing.used_by.Given as goal

abbrev pub invariant-loop-s : goal.invariant-loop-s
invariant-loop-s l = All (IsUsed l.boxes l.used) (take l.s-index l.items)
