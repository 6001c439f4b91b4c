-- The plan from one configuration to another: a line for each path at which their leaves differ, in
-- order of path, and no other line.
use Rattle.std.specs.Prelude.{ℕ, ◌≡◌, Bool, if◌then◌else◌, List, [], ◌∷◌, Option, None, Some, map}
use Rattle.std.specs.Ordering.{is_eq}
use Rattle.serde_json.specs.Data.{Data}
use Rattle.view_leaves.specs.Ascending.{IsAscending}
use Rattle.view_leaves.specs.Leaves.{PathLeaf}
use Rattle.view_leaves.specs.Paths.{Path, path_cmp}
use Rattle.view_plan.specs.Changes.{PlanChange, Added, Removed, change_between}

-- a line: where, and what became of the leaf
abbrev pub PlanLine : Type 0
PlanLine = Path × PlanChange

-- what stands at a path in a list by path
module _ {X : Type 0} where
  abbrev pub found_at : Path → List (Path × X) → Option X
  found_at p [] = None
  found_at p (x ∷ xs) = if is_eq (path_cmp p x.0) then Some x.1 else found_at p xs

-- what became of what stood there, where this stands there now
abbrev pub change_at : Option Data → Option Data → Option PlanChange
change_at None None = None
change_at None (Some e) = Some (Added e)
change_at (Some d) None = Some (Removed d)
change_at (Some d) (Some e) = change_between d e

abbrev pub line_path : PlanLine → Path
line_path l = l.0

-- each line's path stands before those behind it, and at every path there is a line exactly where
-- the leaves there differ: the one that says how
pub record IsPlan (old new : List PathLeaf) (lines : List PlanLine) : Type 0 where
  pub ascending : IsAscending (map line_path lines)
  pub each : (p : Path) → found_at p lines ≡ change_at (found_at p old) (found_at p new)
