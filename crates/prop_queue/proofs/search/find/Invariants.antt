use Rattle.std.proofs.Common.{◌≡◌, true, length, ℕ}
use Rattle.prop_queue.specs.Work.{is_marked, FitsMarks}
use Rattle.prop_queue.proofs.search.find.Given as goal

abbrev pub invariant-loop-k : goal.invariant-loop-k
invariant-loop-k g l =
    (length l.listing.marks ≡ length l.initial.listing.marks)
    × FitsMarks l.g l.listing.marks l.boxes
    × ((j : ℕ) → is_marked l.listing.marks j ≡ true → is_marked l.initial.listing.marks j ≡ true)

abbrev pub decreases-loop-k : goal.decreases-loop-k
decreases-loop-k g l = length l.listing.order
