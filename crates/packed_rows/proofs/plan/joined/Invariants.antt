use Rattle.std.proofs.Common.{length, ◌-◌, ◌≤◌}
use Rattle.packed_rows.proofs.plan.joined.Given as goal

abbrev pub invariant-loop-j : goal.invariant-loop-j
invariant-loop-j l = l.j ≤ length l.right

abbrev pub decreases-loop-j : goal.decreases-loop-j
decreases-loop-j l = length l.right - l.j

abbrev pub invariant-loop-l : goal.invariant-loop-l
invariant-loop-l l = l.j ≤ length l.right
