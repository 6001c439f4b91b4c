use Rattle.std.proofs.Common.{◌≡◌, ◌+◌, ◌<◌, ◌≤◌, ◌+ℤ◌, ℕ, suc, pos, drop, length}
use Rattle.all_different_pruner.specs.Counters.{total, count_begun}
use Rattle.all_different_pruner.proofs.counters.add_starts.Given as goal

abbrev pub invariant-loop-x : goal.invariant-loop-x
invariant-loop-x l = record {
  size : length l.slots ≡ length l.fn.slots;
  few : (e : ℕ) → total (suc e) l.slots ≤ l.x-index;
  totals : (e : ℕ) → e < length l.slots → total (suc e) l.slots + count_begun l.a.value (l.a.value +ℤ pos e) (drop l.x-index l.vars) l.boxes ≡ count_begun l.a.value (l.a.value +ℤ pos e) l.vars l.boxes;
}
