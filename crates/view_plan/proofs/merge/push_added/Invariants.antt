use Rattle.std.proofs.Common.{◌≡◌, ◌++◌, drop}
use Rattle.view_leaves.specs.Views.{leaves_seen}
use Rattle.view_plan.specs.Merging.{additions}
use Rattle.view_plan.specs.Views.{lines_seen}
use Rattle.view_plan.proofs.merge.push_added.Given as goal

-- what is listed and what is left to list are all
abbrev pub invariant-loop-leaf : goal.invariant-loop-leaf
invariant-loop-leaf l =
    lines_seen l.lines.items ++ additions (leaves_seen (drop l.leaf-index l.new))
    ≡ lines_seen l.initial.lines.items ++ additions (leaves_seen l.new)
