use Rattle.std.proofs.Common.{[], List, ℤ, ℕ, pos, get_or, refl, sym, subst}
use Rattle.form_build.proofs.Growth.{adds_nothing, defines_more}
use Rattle.pairwise_forms.specs.KeyValues.{AreConstants}
use Rattle.pairwise_forms.proofs.PickedKeys.{no_constants, constants_more}
use Rattle.pairwise_forms.proofs.keys.constants.Goals as goal

pub loop-pair-init : goal.loop-pair-init
loop-pair-init c = record {
  items = subst (λ (z : List (ℤ × ℕ)). AreConstants c.args.maker.now [] z) (sym c.new-items.ensures.items) (no_constants c.args.maker.now);
  adds = adds_nothing [] c.args.maker.now;
}

pub loop-pair-preserved : goal.loop-pair-preserved
loop-pair-preserved c =
    let there = c.loop-pair.invariant in
    let more = c.in_ok-x.ensures in
    record {
      items =
          constants_more c.loop-pair.maker c.constant.new.maker c.args.pairs.now c.loop-pair.pair-index (get_or c.args.pairs.now c.loop-pair.pair-index (pos 0, 0)) (pos 0, 0) c.loop-pair.items.items c.push_item.new.items.items _ c.in_ok-x.x
          more.adds.grows c.loop-pair-test.true refl refl c.in_ok-push_item.ensures more.exists more.value there.items;
      adds = defines_more c.args.maker.now c.loop-pair.maker c.constant.new.maker there.adds more.adds;
    }
