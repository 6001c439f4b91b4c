use Rattle.std.proofs.Common.{◌≡◌, ◌≤◌, drop, length, map}
use Rattle.view_leaves.specs.Paths.{path_cmp}
use Rattle.view_leaves.specs.Views.{step_seen}
use Rattle.view_leaves.proofs.path.path_order.Given as goal

-- what is left decides
abbrev pub invariant-loop-i : goal.invariant-loop-i
invariant-loop-i l =
    (l.i ≤ length l.right)
    × (path_cmp (map step_seen (drop l.i l.left)) (map step_seen (drop l.i l.right))
    ≡ path_cmp (map step_seen l.left) (map step_seen l.right))
