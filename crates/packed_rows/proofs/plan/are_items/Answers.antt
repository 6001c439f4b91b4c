use Rattle.std.proofs.Common.{pos, refl, sym, ◌∙◌, subst}
use Rattle.std.specs.List.{All}
use Rattle.std.proofs.lemmas.List.{take_all}
use Rattle.std.proofs.lemmas.List.Elements.{All-more}
use Rattle.packed_rows.specs.Plans.{IsItem}
use Rattle.packed_rows.proofs.plan.are_items.Goals as goal

pub loop-item-preserved : goal.loop-item-preserved
loop-item-preserved c rows e =
    All-more (IsItem c.args.boxes.now rows) c.args.items.now c.loop-item.item-index (0, pos 0) c.loop-item-test.true (c.loop-item.invariant rows e)
    (record {
      exists = c.requires c.loop-item.item-index (0, pos 0) c.loop-item-test.true;
      at_bins = λ v there. sym (e v) ∙ c.if-not-is_item.ensures.within refl v there;
      size = c.if-not-is_item.ensures.small refl;
    })

pub returns : goal.returns
returns c h rows e = subst (All (IsItem c.args.boxes.now rows)) (take_all c.loop-item.item-index c.args.items.now c.loop-item-test.false) (c.loop-item.invariant rows e)
