use Rattle.std.proofs.Common.{◌∙◌, arith}
use Rattle.serde_json.specs.View.{items_view}
use Rattle.config_json.proofs.MarkLaws.{marking_start, marking_end, items_end}
use Rattle.config_json.proofs.values.members_in.Goals as goal

pub loop-item-init : goal.loop-item-init
loop-item-init c =
    marking_start c.args.objects.now c.args.class (items_view c.args.items.now)
    c.in_ok-marks.marks.items (c.in_ok-marks.ensures.count ∙ c.count.ensures.count)
    c.in_ok-marks.ensures.none

pub returns : goal.returns
returns c =
    record {
      members = marking_end c.args.objects.now c.args.class (items_view c.args.items.now) _
          c.loop-item.marks.items (items_end c.args.items.now c.loop-item.item-index
          (omega (arith, c.loop-item-test.false))) c.loop-item.invariant;
    }
