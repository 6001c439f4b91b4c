use Rattle.std.proofs.Common.{◌≡◌, ◌≤ℤ◌, drop}
use Rattle.box_rules.specs.Refuted.{last_bin}
use Rattle.box_rules.proofs.packing.last_bin.Given as goal

abbrev pub invariant-loop-i : goal.invariant-loop-i
invariant-loop-i g l = record {
  value : last_bin l.last.value (drop l.i-index l.items) (g.V.View.boxes l.view) ≡ last_bin l.fn.from.value l.items (g.V.View.boxes l.view);
  order : l.fn.from.value ≤ℤ l.last.value;
}
