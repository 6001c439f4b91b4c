use Rattle.std.proofs.Common.{◌≡◌, ℕ, [], length}
use Rattle.clause_watches.specs.Sound.{row_of}
use Rattle.clause_watches.proofs.build.empty_rows.Given as goal

abbrev pub invariant-loop : goal.invariant-loop
invariant-loop l = (length l.rows.items ≡ l.counter) × ((x : ℕ) → row_of l.rows.items x ≡ [])
