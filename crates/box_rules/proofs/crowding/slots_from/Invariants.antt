use Rattle.std.proofs.Common.{◌≡◌, ◌+◌, ◌<◌, ◌≤◌, ◌+ℤ◌, ℕ, suc, pos, drop}
use Rattle.box_rules.specs.Crowding.{count_ends, total}
use Rattle.box_rules.proofs.crowding.slots_from.Given as goal

abbrev pub invariant-loop-p : goal.invariant-loop-p
invariant-loop-p l = record {
  few : (e : ℕ) → total (suc e) l.slots ≤ l.p-index;
  totals : (e : ℕ) → e < 64 → total (suc e) l.slots + count_ends l.a.value (l.a.value +ℤ pos e)
      (drop l.p-index l.ends) ≡ count_ends l.a.value (l.a.value +ℤ pos e) l.ends;
}
