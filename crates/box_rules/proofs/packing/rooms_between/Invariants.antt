use Rattle.std.proofs.Common.{◌≡◌, ◌+ℤ◌, ◌-ℤ◌, ◌≤ℤ◌, ◌*◌, pos, unsigned_abs}
use Rattle.box_rules.specs.Refuted.{rooms_from, width}
use Rattle.box_rules.proofs.packing.rooms_between.Given as goal

abbrev pub invariant-loop-last : goal.invariant-loop-last
invariant-loop-last g l = record {
  value : l.sum.value +ℤ rooms_from (unsigned_abs (l.last.value -ℤ l.at.value))
      (l.at.value +ℤ pos 1) l.items (g.V.View.boxes l.view)
      ≡ rooms_from (width l.fn.first.value l.last.value) l.fn.first.value l.items
      (g.V.View.boxes l.view);
  begun : l.fn.first.value ≤ℤ l.at.value;
  order : l.at.value ≤ℤ l.last.value;
  low : pos 0 ≤ℤ (l.sum.value +ℤ pos (width l.fn.first.value l.at.value * 9223372036854775808));
  high : l.sum.value ≤ℤ pos (width l.fn.first.value l.at.value * 9223372036854775807);
}

abbrev pub decreases-loop-last : goal.decreases-loop-last
decreases-loop-last g l = unsigned_abs (l.last.value -ℤ l.at.value)
