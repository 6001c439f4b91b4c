use Rattle.std.proofs.Common.{◌∙◌}
use Rattle.reference_forms.proofs.PickLaws.{items_there, items_apart, items_held, cell_chosen}
use Rattle.reference_forms.proofs.picks.chosen_cell.Goals as goal

pub picked-requires-clause-exist : goal.picked-requires-clause-exist
picked-requires-clause-exist c =
    items_there c.args.objects.now c.args.maker.now c.args.x c.args.k c.args.shape c.args.pairs.now c.deref.result.now c.count-count.ensures.sound c.requires.cells c.requires.there c.requires.map
    (c.deref.ensures.value ∙ c.in_ok-items.ensures) c.requires.domain

pub picked-requires-clause-distinct : goal.picked-requires-clause-distinct
picked-requires-clause-distinct c =
    items_apart c.args.objects.now c.args.maker.now c.args.x c.args.k c.args.shape c.args.pairs.now c.deref.result.now c.count-count.ensures.sound c.requires.cells c.requires.there c.requires.map
    (c.deref.ensures.value ∙ c.in_ok-items.ensures)

pub picked-requires-clause-held : goal.picked-requires-clause-held
picked-requires-clause-held c v h =
    items_held c.args.objects.now c.args.maker.now c.args.x c.args.k c.args.shape c.args.pairs.now c.deref.result.now c.count-count.ensures.sound c.requires.cells c.requires.there c.requires.map
    (c.deref.ensures.value ∙ c.in_ok-items.ensures) v h

pub returns-clause-cell : goal.returns-clause-cell
returns-clause-cell c values e =
    cell_chosen c.args.objects.now c.args.maker.now c.args.x c.args.k c.args.shape c.args.pairs.now c.deref.result.now c.count-count.ensures.sound c.requires.cells c.requires.there c.requires.map
    (c.deref.ensures.value ∙ c.in_ok-items.ensures) c.picked.new.maker c.in_ok-y.y c.in_ok-y.ensures.adds.grows c.in_ok-y.ensures.picked values e
