use Rattle.std.proofs.Common.{◌≡◌, ◌++◌, drop}
use Rattle.view_leaves.specs.Views.{leaves_seen}
use Rattle.view_plan.specs.Merging.{removals}
use Rattle.view_plan.specs.Views.{lines_seen}
use Rattle.view_plan.proofs.merge.push_removed.Given as goal

-- what is listed and what is left to list are all
abbrev pub invariant-loop-leaf : goal.invariant-loop-leaf
invariant-loop-leaf l =
    lines_seen l.lines.items ++ removals (leaves_seen (drop l.leaf-index l.old))
    ≡ lines_seen l.initial.lines.items ++ removals (leaves_seen l.old)
