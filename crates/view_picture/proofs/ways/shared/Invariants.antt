use Rattle.std.proofs.Common.{◌≡◌, ◌+◌, ◌≤◌, drop, length, map}
use Rattle.view_leaves.specs.Views.{step_seen}
use Rattle.view_picture.specs.Parts.{shared}
use Rattle.view_picture.proofs.ways.shared.Given as goal

-- the steps so far, and those that what is left shares, are all
abbrev pub invariant-loop-i : goal.invariant-loop-i
invariant-loop-i l =
    (l.i ≤ length l.right)
    × (shared (map step_seen l.left) (map step_seen l.right)
    ≡ l.i + shared (map step_seen (drop l.i l.left)) (map step_seen (drop l.i l.right)))
