-- Paths and holdings of the program, as what they stand for.
use Rattle.std.specs.Prelude.{List, map}
use Rattle.std.specs.Borrow.{Bor}
use Rattle.view_leaves.specs.declared.path.Step.{Step}
use Rattle.view_leaves.specs.Paths.{Path}
use Rattle.view_leaves.specs.Views.{step_seen}

abbrev pub path_seen : Bor (List Step) → Path
path_seen p = map step_seen p.now

abbrev pub paths_seen : List (Bor (List Step)) → List Path
paths_seen ps = map path_seen ps
