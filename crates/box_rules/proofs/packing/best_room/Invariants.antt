use Rattle.std.proofs.Common.{◌≡◌, ◌≤ℤ◌, pos, drop}
use Rattle.std.specs.Int.{int_max}
use Rattle.box_rules.specs.Refuted.{best_room}
use Rattle.box_rules.proofs.packing.best_room.Given as goal

abbrev pub invariant-loop-i : goal.invariant-loop-i
invariant-loop-i g l = record {
  value : int_max l.best.value (best_room l.at.value (drop l.i-index l.items) (g.V.View.boxes l.view)) ≡ best_room l.at.value l.items (g.V.View.boxes l.view);
  low : pos 0 ≤ℤ l.best.value;
}
