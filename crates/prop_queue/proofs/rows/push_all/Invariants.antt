use Rattle.std.proofs.Common.{◌≡◌, ◌==◌, ◌||◌, ◌&&◌, length, drop, ℕ}
use Rattle.rule_law.specs.Reasons.{has_number}
use Rattle.prop_queue.specs.Work.{row_of}
use Rattle.prop_queue.proofs.rows.push_all.Given as goal

abbrev pub invariant-loop-x : goal.invariant-loop-x
invariant-loop-x l =
    (length l.rows ≡ length l.initial.rows)
    × ((y j : ℕ) →
    (has_number j (row_of l.rows y) || has_number y (drop l.x-index l.vars) && l.k == j)
    ≡ (has_number j (row_of l.initial.rows y) || has_number y l.vars && l.k == j))
