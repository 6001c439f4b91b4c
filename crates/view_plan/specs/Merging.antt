-- What one turn of the walk over both lists of leaves adds to the plan, for private clauses.
use Rattle.std.specs.Prelude.{List, [], ◌∷◌, Option, None, Some, map}
use Rattle.std.specs.declared.cmp.Ordering.{Ordering}
use Rattle.std.specs.declared.cmp.Ordering.TheVariants.{Less, Equal, Greater}
use Rattle.view_leaves.specs.Leaves.{PathLeaf}
use Rattle.view_leaves.specs.Paths.{Path}
use Rattle.view_plan.specs.Changes.{PlanChange, Added, Removed, change_between}
use Rattle.view_plan.specs.Plan.{PlanLine}

abbrev pub removal : PathLeaf → PlanLine
removal l = (l.0, Removed l.1)

abbrev pub addition : PathLeaf → PlanLine
addition l = (l.0, Added l.1)

abbrev pub removals : List PathLeaf → List PlanLine
removals ls = map removal ls

abbrev pub additions : List PathLeaf → List PlanLine
additions ls = map addition ls

abbrev pub change_line : Path → Option PlanChange → List PlanLine
change_line p None = []
change_line p (Some c) = (p, c) ∷ []

abbrev pub turn_lines : Ordering → PathLeaf → PathLeaf → List PlanLine
turn_lines Less old new = removal old ∷ []
turn_lines Greater old new = addition new ∷ []
turn_lines Equal old new = change_line old.0 (change_between old.1 new.1)
