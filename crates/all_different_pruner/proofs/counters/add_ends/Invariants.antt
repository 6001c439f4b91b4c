use Rattle.std.proofs.Common.{◌≡◌, ◌+◌, ◌<◌, ◌≤◌, ◌+ℤ◌, ℕ, suc, pos, drop, length}
use Rattle.box_rules.specs.Refuted.{count_in}
use Rattle.all_different_pruner.specs.Counters.{total}
use Rattle.all_different_pruner.proofs.counters.add_ends.Given as goal

abbrev pub invariant-loop-x : goal.invariant-loop-x
invariant-loop-x l = record {
  size : length l.slots ≡ length l.fn.slots;
  few : (e : ℕ) → total (suc e) l.slots ≤ l.x-index;
  totals : (e : ℕ) → e < length l.slots → total (suc e) l.slots + count_in l.a.value (l.a.value +ℤ pos e) (drop l.x-index l.vars) l.boxes ≡ count_in l.a.value (l.a.value +ℤ pos e) l.vars l.boxes;
}
