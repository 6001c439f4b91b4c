use Rattle.std.proofs.Common.{◌≡◌, ◌+ℤ◌, ◌≤ℤ◌, ◌*◌, pos, drop}
use Rattle.box_rules.specs.Refuted.{least_sizes}
use Rattle.box_rules.proofs.packing.least_sizes.Given as goal

abbrev pub invariant-loop-i : goal.invariant-loop-i
invariant-loop-i g l = record {
  value : l.sum.value +ℤ least_sizes (drop l.i-index l.items) (g.V.View.boxes l.view) ≡ least_sizes l.items (g.V.View.boxes l.view);
  low : pos 0 ≤ℤ (l.sum.value +ℤ pos (l.i-index * 9223372036854775808));
  high : l.sum.value ≤ℤ pos (l.i-index * 9223372036854775807);
}
