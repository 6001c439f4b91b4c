use Rattle.std.proofs.Common.{◌≡◌, ◌≤ℤ◌, drop}
use Rattle.box_rules.specs.Refuted.{first_bin}
use Rattle.box_rules.proofs.packing.first_bin.Given as goal

abbrev pub invariant-loop-i : goal.invariant-loop-i
invariant-loop-i g l = record {
  value : first_bin l.first.value (drop l.i-index l.items) (g.V.View.boxes l.view) ≡ first_bin l.fn.from.value l.items (g.V.View.boxes l.view);
  order : l.first.value ≤ℤ l.fn.from.value;
}
