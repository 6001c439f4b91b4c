use Rattle.std.proofs.Common.{◌≡◌, ◌≤ℤ◌, pos, drop}
use Rattle.std.specs.Int.{int_min}
use Rattle.pack_fit.specs.Packing.{tight_room}
use Rattle.pack_fit.proofs.loads.tight_at.Given as goal

abbrev pub invariant-loop-i : goal.invariant-loop-i
invariant-loop-i l = record {
  value : int_min l.tight.value (tight_room l.at.value (drop l.i-index l.items) l.boxes) ≡ tight_room l.at.value l.items l.boxes;
  high : l.tight.value ≤ℤ pos 9223372036854775807;
}
