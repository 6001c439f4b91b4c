use Rattle.std.proofs.Common.{◌-◌, ◌≡◌, ◌≤◌, ℕ, length, max}
use Rattle.clause_watches.specs.Marks.{is_marked, count_marked}
use Rattle.clause_watches.proofs.work_list.grow_marks.Given as goal

abbrev pub invariant-loop-marks : goal.invariant-loop-marks
invariant-loop-marks l =
    (length l.initial.marks.items ≤ length l.marks.items)
    × (length l.marks.items ≤ max l.n (length l.initial.marks.items))
    × ((k : ℕ) → is_marked l.marks.items k ≡ is_marked l.initial.marks.items k)
    × (count_marked l.marks.items ≡ count_marked l.initial.marks.items)

abbrev pub decreases-loop-marks : goal.decreases-loop-marks
decreases-loop-marks l = l.n - length l.marks.items
