use Rattle.std.proofs.Common.{length, ◌-◌, ◌≤◌}
use Rattle.stated_rows.proofs.groups.counted.Given as goal

abbrev pub invariant-loop-j : goal.invariant-loop-j
invariant-loop-j l = l.j ≤ length l.loads

abbrev pub decreases-loop-j : goal.decreases-loop-j
decreases-loop-j l = length l.loads - l.j

abbrev pub invariant-loop-item : goal.invariant-loop-item
invariant-loop-item l = l.j ≤ length l.loads
