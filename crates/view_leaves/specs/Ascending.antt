-- Lists of paths that ascend.
use Rattle.std.specs.Prelude.{List, map}
use Rattle.std.specs.List.Sorted.{IsStrictlySortedBy}
use Rattle.view_leaves.specs.Leaves.{PathLeaf}
use Rattle.view_leaves.specs.Paths.{Path, path_cmp}

-- each path stands before all behind it, so none stands twice
abbrev pub IsAscending : List Path → Type 0
IsAscending ps = IsStrictlySortedBy path_cmp ps

abbrev pub leaf_path : PathLeaf → Path
leaf_path l = l.0

abbrev pub paths : List PathLeaf → List Path
paths ls = map leaf_path ls
