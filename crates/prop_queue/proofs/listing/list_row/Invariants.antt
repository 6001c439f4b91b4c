use Rattle.std.proofs.Common.{◌≡◌, ◌||◌, length, drop, ℕ}
use Rattle.rule_law.specs.Reasons.{has_number}
use Rattle.prop_queue.specs.Work.{is_marked}
use Rattle.prop_queue.proofs.listing.list_row.Given as goal

abbrev pub invariant-loop-k : goal.invariant-loop-k
invariant-loop-k l =
    (length l.listing.marks ≡ length l.initial.listing.marks)
    × ((j : ℕ) → (is_marked l.listing.marks j || has_number j (drop l.k-index l.row))
    ≡ (is_marked l.initial.listing.marks j || has_number j l.row))
