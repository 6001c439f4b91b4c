use Rattle.std.proofs.Common.{sym, ◌∙◌}
use Rattle.box_view.proofs.EndLaws.{are_sets}
use Rattle.element_prop.proofs.OfferLaws.{covered_offered, all_values_offered, none_then}
use Rattle.element_prop.proofs.offers.unoffered.Goals as goal

pub returns-then-is_covered-clause-none : goal.returns-then-is_covered-clause-none
returns-then-is_covered-clause-none c =
    covered_offered c.args.out.now c.args.items.now c.args.index.now c.args.boxes.now c.ranges-2.ensures.valid c.requires.some (are_sets c.args.boxes.now c.requires.sets)
    (sym c.is_covered.ensures ∙ c.if-is_covered.true)

pub returns-then-at_most-clause-none : goal.returns-then-at_most-clause-none
returns-then-at_most-clause-none c =
    none_then c.unoffered_of.result c.unoffered_of.ensures.none (all_values_offered c.args.out.now c.args.items.now c.args.index.now c.args.boxes.now c.ranges-2.ensures.valid c.requires.some)
