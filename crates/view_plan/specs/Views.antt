-- Changes and lines of the program, as what they stand for.
use Rattle.std.specs.Prelude.{List, map}
use Rattle.serde_json.specs.View.{view}
use Rattle.view_leaves.specs.Views.{step_seen}
use Rattle.view_plan.specs.declared.change.Change.{Change}
use Rattle.view_plan.specs.declared.change.Change.TheVariants as change
use Rattle.view_plan.specs.declared.merge.Line.{Line}
use Rattle.view_plan.specs.Changes.{PlanChange, Added, Removed, Changed, Members}
use Rattle.view_plan.specs.Plan.{PlanLine}

abbrev pub change_seen : Change → PlanChange
change_seen (change.Added e) = Added (view e.now)
change_seen (change.Removed d) = Removed (view d.now)
change_seen (change.Changed d e) = Changed (view d.now) (view e.now)
change_seen (change.Members added taken both) =
    Members (map (λ w. w.now) added.items) (map (λ w. w.now) taken.items) both

abbrev pub line_seen : Line → PlanLine
line_seen l = (map step_seen l.path.now, change_seen l.change)

abbrev pub lines_seen : List Line → List PlanLine
lines_seen ls = map line_seen ls
