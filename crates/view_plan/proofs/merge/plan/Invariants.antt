use Rattle.std.proofs.Common.{◌+◌, ◌-◌, ◌≤◌, drop, length}
use Rattle.view_leaves.specs.Views.{leaves_seen}
use Rattle.view_plan.specs.Views.{lines_seen}
use Rattle.view_plan.proofs.MergeLaws.{HasCome}
use Rattle.view_plan.proofs.merge.plan.Given as goal

-- the lines so far and the leaves that are left give the plan
abbrev pub invariant-loop-i : goal.invariant-loop-i
invariant-loop-i l =
    HasCome (leaves_seen l.old) (leaves_seen l.new) (lines_seen l.lines.items)
    (leaves_seen (drop l.i l.old)) (leaves_seen (drop l.j l.new))
    × (l.i ≤ length l.old) × (l.j ≤ length l.new)

abbrev pub decreases-loop-i : goal.decreases-loop-i
decreases-loop-i l = (length l.old - l.i) + (length l.new - l.j)
