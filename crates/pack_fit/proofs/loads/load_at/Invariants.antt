use Rattle.std.proofs.Common.{◌≡◌, ◌+ℤ◌, ◌≤ℤ◌, ◌*◌, pos, drop}
use Rattle.box_rules.specs.Refuted.{fixed_load}
use Rattle.pack_fit.proofs.loads.load_at.Given as goal

abbrev pub invariant-loop-i : goal.invariant-loop-i
invariant-loop-i l = record {
  value : l.load.value +ℤ fixed_load l.at.value (drop l.i-index l.items) l.boxes ≡ fixed_load l.at.value l.items l.boxes;
  low : pos 0 ≤ℤ (l.load.value +ℤ pos (l.i-index * 9223372036854775808));
  high : l.load.value ≤ℤ pos (l.i-index * 9223372036854775807);
}
