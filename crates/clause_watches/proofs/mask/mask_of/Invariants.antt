use Rattle.std.proofs.Common.{◌≡◌, ◌<◌, ℕ, true, pos, ◌+ℤ◌, drop}
use Rattle.std.specs.Int.{bit_at}
use Rattle.signed_clause.specs.Ranges.{has}
use Rattle.clause_watches.specs.Rows.{IsMaskOf}
use Rattle.clause_watches.proofs.mask.mask_of.Given as goal

abbrev pub invariant-loop-r : goal.invariant-loop-r
invariant-loop-r l = record {
  mask : IsMaskOf l.least l.set l.mask;
  left : (j : ℕ) → j < 64 → has l.set (l.least +ℤ pos j) ≡ true → bit_at l.mask j ≡ 0 →
      has (drop l.r-index l.set) (l.least +ℤ pos j) ≡ true;
}
