use Rattle.std.proofs.Common.{take}
use Rattle.packing_sums.specs.Packings.{AreItemsOf}
use Rattle.packing_sums.proofs.packing.items_of.Given as goal

abbrev pub invariant-loop-i : goal.invariant-loop-i
invariant-loop-i l = AreItemsOf l.boxes l.room (take l.i-index l.items) l.out.items
