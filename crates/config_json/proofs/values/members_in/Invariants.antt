use Rattle.std.proofs.Common.{drop}
use Rattle.serde_json.specs.View.{items_view}
use Rattle.config_json.specs.Marking.{IsMarking}
use Rattle.config_json.proofs.values.members_in.Given as goal

abbrev pub invariant-loop-item : goal.invariant-loop-item
invariant-loop-item l =
    IsMarking l.objects l.class (items_view l.items) (items_view (drop l.item-index l.items))
    l.marks.items
