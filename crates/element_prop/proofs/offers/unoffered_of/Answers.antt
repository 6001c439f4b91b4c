use Rattle.std.proofs.Common.{◌≡◌, true, pos, get_or, refl, subst, sym}
use Rattle.std.proofs.lemmas.Option.{IfSome_then}
use Rattle.signed_clause.specs.Ranges.{Ranges, has, IsValid}
use Rattle.box_rules.proofs.QuietLaws.{range_order, range_values}
use Rattle.element_prop.proofs.offers.unoffered_of.Goals as goal

pub unoffered_in-found-requires-clause-order : goal.unoffered_in-found-requires-clause-order
unoffered_in-found-requires-clause-order c = range_order c.ranges-r-items.result.now c.loop-r.r-index _ (subst (λ (s : Ranges). IsValid s) (sym c.ranges-r-items.ensures.items) c.ranges-r-items.ensures.valid) c.loop-r-test.true refl

pub returns-then-is_some-clause-within : goal.returns-then-is_some-clause-within
returns-then-is_some-clause-within c =
    let rs = c.ranges-r-items.result.now in let i = c.loop-r.r-index in
    IfSome_then c.unoffered_in-found.result c.unoffered_in-found.ensures.within
    (λ n h. subst (λ (s : Ranges). has s n.value ≡ true) c.ranges-r-items.ensures.items (range_values rs i (get_or rs i (pos 0, pos 0)) n.value c.loop-r-test.true refl h))
