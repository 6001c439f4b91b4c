use Rattle.std.proofs.Common.{◌≡◌, false, length, ℕ}
use Rattle.prop_queue.specs.Work.{is_marked}
use Rattle.prop_queue.proofs.listing.no_marks.Given as goal

abbrev pub invariant-loop : goal.invariant-loop
invariant-loop l =
    (length l.marks.items ≡ l.counter) × ((k : ℕ) → is_marked l.marks.items k ≡ false)
