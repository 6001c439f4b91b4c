use Rattle.std.proofs.Common.{◌≡◌, ◌+ℤ◌, ◌≤ℤ◌, ◌*◌, pos, drop}
use Rattle.box_rules.specs.Refuted.{fixed_load}
use Rattle.pack_prop.specs.Sources.{with_part}
use Rattle.pack_prop.proofs.overfull.load_at.Given as goal

abbrev pub invariant-loop-i : goal.invariant-loop-i
invariant-loop-i l = record {
  value : l.load.value +ℤ fixed_load l.at.value (drop l.i-index l.tried.items.now) (with_part l.tried.boxes.now l.tried.x l.tried.part.now) ≡ fixed_load l.at.value l.tried.items.now (with_part l.tried.boxes.now l.tried.x l.tried.part.now);
  low : pos 0 ≤ℤ (l.load.value +ℤ pos (l.i-index * 9223372036854775808));
  high : l.load.value ≤ℤ pos (l.i-index * 9223372036854775807);
}
