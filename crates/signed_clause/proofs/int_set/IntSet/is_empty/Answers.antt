use Rattle.std.proofs.Common.{refl, arith}
use Rattle.std.proofs.lemmas.Grind.{common_steps}
use Rattle.signed_clause.proofs.SetFacts.{is_nil_values}
use Rattle.signed_clause.proofs.int_set.IntSet.is_empty.Goals as goal

pub returns-clause-list : goal.returns-clause-list
returns-clause-list c = grind (arith, common_steps)

pub returns-clause-values : goal.returns-clause-values
returns-clause-values c = is_nil_values _ _ _ c.ranges-2.ensures.valid refl (returns-clause-list c)
