use Rattle.std.proofs.Common.{◌≡◌, ℤ, ◌≤ℤ◌, ◌<ℤ◌, pos, drop}
use Rattle.box_rules.specs.Refuted.{best_room}
use Rattle.box_rules.proofs.packing.next_bin.Given as goal

abbrev pub invariant-loop-i : goal.invariant-loop-i
invariant-loop-i g l = record {
  from : l.from.value ≤ℤ l.next.value;
  upto : l.next.value ≤ℤ l.fn.last.value;
  none_before : (u : ℤ) → l.from.value ≤ℤ u → u <ℤ l.next.value →
      best_room u (drop l.i-index l.items) (g.V.View.boxes l.view) ≡ pos 0
      → best_room u l.items (g.V.View.boxes l.view) ≡ pos 0;
}
