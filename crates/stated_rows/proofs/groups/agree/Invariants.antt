use Rattle.std.proofs.Common.{length, ◌-◌, ◌≤◌}
use Rattle.stated_rows.proofs.groups.agree.Given as goal

abbrev pub invariant-loop-j : goal.invariant-loop-j
invariant-loop-j l = l.j ≤ length l.items

abbrev pub decreases-loop-j : goal.decreases-loop-j
decreases-loop-j l = length l.items - l.j

abbrev pub invariant-loop-l : goal.invariant-loop-l
invariant-loop-l l = l.j ≤ length l.items
