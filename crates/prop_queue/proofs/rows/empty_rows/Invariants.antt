use Rattle.std.proofs.Common.{◌≡◌, false, length, map, ℕ}
use Rattle.rule_law.specs.Reasons.{has_number}
use Rattle.prop_queue.specs.Work.{row_of}
use Rattle.prop_queue.proofs.rows.empty_rows.Given as goal

abbrev pub invariant-loop : goal.invariant-loop
invariant-loop l =
    (length l.rows.items ≡ l.counter)
    × ((x k : ℕ) → has_number k (row_of (map (λ r. r.items) l.rows.items) x) ≡ false)
