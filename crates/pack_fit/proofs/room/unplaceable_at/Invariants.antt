use Rattle.std.proofs.Common.{◌≡◌, drop}
use Rattle.pack_fit.specs.Packing.{all_fit}
use Rattle.pack_fit.proofs.room.unplaceable_at.Given as goal

abbrev pub invariant-loop-i : goal.invariant-loop-i
invariant-loop-i l = all_fit l.at.value (drop l.i-index l.items) l.items l.boxes ≡ all_fit l.at.value l.items l.items l.boxes
