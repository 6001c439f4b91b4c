use Rattle.std.proofs.Common.{◌≡◌, ◌+ℤ◌, ◌≤ℤ◌, ◌*◌, pos, drop}
use Rattle.box_rules.specs.Refuted.{least_sizes}
use Rattle.pack_prop.specs.Sources.{with_part}
use Rattle.pack_prop.proofs.total.sizes_of.Given as goal

abbrev pub invariant-loop-i : goal.invariant-loop-i
invariant-loop-i l = record {
  value : l.sum.value +ℤ least_sizes (drop l.i-index l.tried.items.now) (with_part l.tried.boxes.now l.tried.x l.tried.part.now) ≡ least_sizes l.tried.items.now (with_part l.tried.boxes.now l.tried.x l.tried.part.now);
  low : pos 0 ≤ℤ (l.sum.value +ℤ pos (l.i-index * 9223372036854775808));
  high : l.sum.value ≤ℤ pos (l.i-index * 9223372036854775807);
}
