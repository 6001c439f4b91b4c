use Rattle.std.proofs.Common.{[], ◌∷◌, List, pos, map, length, length-append, sym, ap, subst, arith}
use Rattle.std.specs.Int.{int_max, int_min}
use Rattle.std.specs.List.{All}
use Rattle.std.proofs.lemmas.List.Elements.{All-nil, All-push}
use Rattle.form_build.specs.declared.form.Linear.{Linear}
use Rattle.form_build.specs.Forms.{linear_at}
use Rattle.form_build.specs.Sums.{IsSum}
use Rattle.form_build.proofs.Growth.{world_before, adds_nothing, defines_more}
use Rattle.quantifier_forms.proofs.SumLaws.{sums_kept}
use Rattle.pairwise_forms.proofs.LoadSteps.{item_kept, items_kept, narrow_sizes, added_more, size_before}
use Rattle.pairwise_forms.proofs.loads.all_added.Goals as goal

pub loop-f-init : goal.loop-f-init
loop-f-init c = record {
  values = λ a w. ap (map (λ (g : Linear). linear_at g a)) c.new-sums.ensures.items;
  sums = λ low high h.
      subst (All (IsSum c.args.maker.now.domains (int_min low (pos 0)) (int_max high (pos 0)))) (sym c.new-sums.ensures.items) (All-nil (IsSum c.args.maker.now.domains (int_min low (pos 0)) (int_max high (pos 0))));
  count = ap (λ (fs : List Linear). length fs) c.new-sums.ensures.items;
  item = c.requires.item;
  items = c.requires.items;
  narrow = c.requires.narrow;
  adds = adds_nothing [] c.args.maker.now;
}

pub loop-f-preserved : goal.loop-f-preserved
loop-f-preserved c =
    let there = c.loop-f.invariant in
    let more = c.in_ok-r.ensures in
    let made = c.in_ok-push.ensures.items in
    record {
      values = λ a w.
          added_more c.args.e.now c.args.items.now c.loop-f.f-index c.f-item.result a c.loop-f.sums.items c.push.new.self.items c.in_ok-r.r
          c.loop-f-test.true c.f-item.is made
          (there.values a (world_before c.loop-f.maker c.added.new.maker a more.adds.grows w)) (more.value a w);
      sums = λ low high h.
          let below = int_min low (pos 0) in
          let above = int_max high (pos 0) in
          subst (All (IsSum c.added.new.maker.domains below above)) (sym made)
          (All-push (IsSum c.added.new.maker.domains below above) c.loop-f.sums.items c.in_ok-r.r
          (sums_kept below above c.loop-f.maker c.added.new.maker c.loop-f.sums.items more.adds.grows (there.sums low high h))
          (more.sum low high (size_before c.args.maker.now c.loop-f.maker low high c.args.items.now c.loop-f.f-index c.f-item.result there.adds.grows c.loop-f-test.true c.f-item.is h)));
      count = let one = ap (λ (fs : List Linear). length fs) made in let size = there.count in omega (arith, one, size, length-append c.loop-f.sums.items (c.in_ok-r.r ∷ []));
      item = item_kept c.loop-f.maker c.added.new.maker c.args.e.now more.adds.grows there.item;
      items = items_kept c.loop-f.maker c.added.new.maker c.args.items.now more.adds.grows there.items;
      narrow = narrow_sizes c.loop-f.maker c.added.new.maker c.args.items.now more.adds.grows there.narrow;
      adds = defines_more c.args.maker.now c.loop-f.maker c.added.new.maker there.adds more.adds;
    }
