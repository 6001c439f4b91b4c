use Rattle.std.proofs.Common.{◌≡◌, ◌≤ℤ◌, pos, drop}
use Rattle.std.specs.Int.{int_max}
use Rattle.pack_fit.specs.Packing.{growth}
use Rattle.pack_fit.proofs.room.growth_of.Given as goal

abbrev pub invariant-loop-i : goal.invariant-loop-i
invariant-loop-i l = record {
  value : int_max l.most.value (growth (drop l.i-index l.items) l.boxes) ≡ growth l.items l.boxes;
  low : pos 0 ≤ℤ l.most.value;
}
