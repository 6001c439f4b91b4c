use Rattle.std.proofs.Common.{◌≡◌, true, pos, refl, get_or, subst, sym, ◌∙◌}
use Rattle.signed_clause.specs.Ranges.{Ranges, has}
use Rattle.element_prop.proofs.OfferLaws.{reaches}
use Rattle.element_prop.proofs.offers.reach_in.Goals as goal

pub returns-then-is_in-clause-some : goal.returns-then-is_in-clause-some
returns-then-is_in-clause-some c = λ v low high.
    let rs = c.ranges-r-items.result.now in let i = c.loop-r.r-index in
    subst (λ (s : Ranges). has s v ≡ true) c.ranges-r-items.ensures.items
    (reaches rs i (get_or rs i (pos 0, pos 0)) c.args.at.value _ v c.loop-r-test.true refl (sym c.is_in.ensures ∙ c.if-is_in.true) c.end_of.ensures low high)
