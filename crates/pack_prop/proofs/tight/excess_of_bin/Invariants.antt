use Rattle.std.proofs.Common.{◌≡◌, drop}
use Rattle.pack_prop.specs.Tight.{may_be_in}
use Rattle.pack_prop.proofs.tight.excess_of_bin.Given as goal

abbrev pub invariant-loop-b : goal.invariant-loop-b
invariant-loop-b l = may_be_in l.need.value l.sum.value (drop l.b-index l.best_rooms) l.i l.boxes ≡ may_be_in l.need.value l.sum.value l.best_rooms l.i l.boxes
