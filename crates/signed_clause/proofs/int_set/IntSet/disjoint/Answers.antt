use Rattle.signed_clause.proofs.SetFacts.{disjoint_values}
use Rattle.signed_clause.proofs.int_set.IntSet.disjoint.Goals as goal

pub returns-clause-values : goal.returns-clause-values
returns-clause-values c = disjoint_values _ _ _ _ _ c.ranges-2.ensures.valid c.ranges-3.ensures.valid c.ranges-2.ensures.items c.ranges-3.ensures.items c.all_ranges_disjoint.ensures
