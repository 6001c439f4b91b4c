use Rattle.std.proofs.Common.{◌≡◌, ◌++◌, drop, map}
use Rattle.view_leaves.specs.Views.{step_seen}
use Rattle.view_picture.specs.Parts.{ways}
use Rattle.view_picture.specs.Views.{paths_seen}
use Rattle.view_picture.proofs.ways.push_ways.Given as goal

-- what is listed and what is left to list are all
abbrev pub invariant-loop-last : goal.invariant-loop-last
invariant-loop-last l =
    paths_seen l.parts.items ++ drop l.last (ways (map step_seen l.path))
    ≡ paths_seen l.initial.parts.items ++ drop l.known (ways (map step_seen l.path))
