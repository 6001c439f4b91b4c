use Rattle.std.proofs.Common.{◌≡◌, drop}
use Rattle.pack_prop.specs.Tight.{all_loose}
use Rattle.pack_prop.proofs.tight.excess_of_bins.Given as goal

abbrev pub invariant-loop-i : goal.invariant-loop-i
invariant-loop-i l = all_loose l.need.value l.best_rooms (drop l.i-index l.items) l.boxes ≡ all_loose l.need.value l.best_rooms l.items l.boxes
