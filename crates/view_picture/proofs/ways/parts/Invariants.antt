use Rattle.std.proofs.Common.{◌≡◌, ◌++◌, drop}
use Rattle.view_leaves.specs.Views.{leaves_seen}
use Rattle.view_picture.specs.Parts.{parts, parts_behind, path_before}
use Rattle.view_picture.specs.Views.{paths_seen}
use Rattle.view_picture.proofs.ways.parts.Given as goal

-- what is listed and what is left to list are all
abbrev pub invariant-loop-number : goal.invariant-loop-number
invariant-loop-number l =
    paths_seen l.list.items
    ++ parts_behind (path_before (leaves_seen l.leaves) l.number) (leaves_seen (drop l.number l.leaves))
    ≡ parts (leaves_seen l.leaves)
