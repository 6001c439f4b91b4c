use Rattle.std.proofs.Common.{get_or, refl}
use Rattle.pack_fit.proofs.BinsCounted.{space_at, bins_more, bins_same}
use Rattle.pack_fit.proofs.survey.add_item.Goals as goal

pub with_item-requires-clause-low : goal.with_item-requires-clause-low
with_item-requires-clause-low c = (space_at c.args.bins.now c.args.first.value c.args.items.now c.args.boxes.now c.args.k c.in-Some.d _ c.requires.sets c.requires.within c.requires.few c.requires.behind c.in-Some.ensures.below).low

pub with_item-requires-clause-high : goal.with_item-requires-clause-high
with_item-requires-clause-high c = (space_at c.args.bins.now c.args.first.value c.args.items.now c.args.boxes.now c.args.k c.in-Some.d _ c.requires.sets c.requires.within c.requires.few c.requires.behind c.in-Some.ensures.below).high

pub with_item-requires-clause-few : goal.with_item-requires-clause-few
with_item-requires-clause-few c = (space_at c.args.bins.now c.args.first.value c.args.items.now c.args.boxes.now c.args.k c.in-Some.d _ c.requires.sets c.requires.within c.requires.few c.requires.behind c.in-Some.ensures.below).few

pub returns-in-Some-clause-bins : goal.returns-in-Some-clause-bins
returns-in-Some-clause-bins c =
    bins_more c.args.bins.now c.args.first.value c.args.items.now c.args.boxes.now c.args.k c.in-Some.d (get_or c.args.items.now c.args.k (0, 0, 0)) _ c.with_item.result c.requires.within refl c.in-Some.ensures.below
    c.in-Some.ensures.slot (record {
      load = c.with_item.ensures.load;
      tight = c.with_item.ensures.tight;
      room = c.with_item.ensures.room;
      growth = c.with_item.ensures.growth;
      count = c.with_item.ensures.count;
      frozen = c.with_item.ensures.frozen;
    }) c.requires.behind

pub returns-in_default-clause-bins : goal.returns-in_default-clause-bins
returns-in_default-clause-bins c =
    bins_same c.args.bins.now c.args.first.value c.args.items.now c.args.boxes.now c.args.k (get_or c.args.items.now c.args.k (0, 0, 0)) c.requires.within refl
    (λ e lt. c.in_default.ensures.slot e lt) c.requires.behind
