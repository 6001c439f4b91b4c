use Rattle.std.proofs.Common.{◌≡◌, true, refl, subst}
use Rattle.signed_clause.specs.Ranges.{Ranges, has}
use Rattle.signed_clause.proofs.SetFacts.{within_same, within_values}
use Rattle.signed_clause.proofs.int_set.IntSet.within.Goals as goal

pub returns-then-is_long_as-clause-list : goal.returns-then-is_long_as-clause-list
returns-then-is_long_as-clause-list c = within_same _ _ c.ranges-a.ensures.valid (c.is_long_as.ensures c.if-is_long_as.true)

pub returns-then-is_long_as-clause-values : goal.returns-then-is_long_as-clause-values
returns-then-is_long_as-clause-values c =
    let same = c.is_long_as.ensures c.if-is_long_as.true in
    ((λ h v k. subst (λ (z : Ranges). has z v ≡ true) same k), (λ h. refl))

pub returns-clause-values : goal.returns-clause-values
returns-clause-values c = within_values _ _ _ _ _ c.ranges-a.ensures.valid c.ranges-b.ensures.valid c.ranges-a.ensures.items c.ranges-b.ensures.items c.all_covered.ensures
