use Rattle.std.proofs.Common.{[], List, sym, subst}
use Rattle.form_build.proofs.Growth.{adds_nothing, defines_more}
use Rattle.pairwise_forms.specs.declared.members.Packed.{Packed}
use Rattle.pairwise_forms.specs.Packing.{AreItems}
use Rattle.pairwise_forms.proofs.LoadSteps.{item_parts_kept, no_items, items_more, items_all}
use Rattle.pairwise_forms.proofs.loads.packed.Goals as goal

pub loop-p-init : goal.loop-p-init
loop-p-init c = record {
  items = subst (λ (es : List Packed). AreItems c.args.maker.now [] es) (sym c.new-items.ensures.items) (no_items c.args.maker.now);
  parts = c.requires.parts;
  adds = adds_nothing [] c.args.maker.now;
}

pub loop-p-preserved : goal.loop-p-preserved
loop-p-preserved c =
    let there = c.loop-p.invariant in
    let more = c.in_ok-item.ensures in
    record {
      items =
          items_more c.loop-p.maker c.packed_part.new.maker c.args.parts.now c.loop-p.p-index c.p-item.result c.loop-p.items.items c.push.new.self.items c.in_ok-item.item
          more.adds.grows c.loop-p-test.true c.p-item.is c.in_ok-push.ensures.items more.item there.items;
      parts = item_parts_kept c.loop-p.maker c.packed_part.new.maker c.args.parts.now more.adds.grows there.parts;
      adds = defines_more c.args.maker.now c.loop-p.maker c.packed_part.new.maker there.adds more.adds;
    }

pub returns-clause-items : goal.returns-clause-items
returns-clause-items c = items_all c.loop-p.maker c.args.parts.now c.loop-p.p-index c.loop-p.items.items c.loop-p-test.false c.loop-p.invariant.items
