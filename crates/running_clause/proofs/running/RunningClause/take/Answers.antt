use Rattle.std.proofs.Common.{subst, sym}
use Rattle.std.proofs.lemmas.List.Sorted.{IsNonDecreasingBy-from_sort}
use Rattle.signed_clause.specs.Clauses.{IsClause}
use Rattle.running_clause.proofs.RunningLaws.{listed_none, listed_form, within_sorted, noted_sorted}
use Rattle.running_clause.proofs.running.RunningClause.take.Goals as goal

pub move_literals-literals-requires-clause-within : goal.move_literals-literals-requires-clause-within
move_literals-literals-requires-clause-within c = rw c.as_slice.ensures.value (within_sorted _ _ _ c.sort_unstable.ensures.permutation c.self.invariant.within)

pub move_literals-literals-requires-clause-noted : goal.move_literals-literals-requires-clause-noted
move_literals-literals-requires-clause-noted c = rw c.as_slice.ensures.value (noted_sorted _ _ _ c.sort_unstable.ensures.permutation c.self.invariant.noted)

pub move_literals-literals-requires-clause-sorted : goal.move_literals-literals-requires-clause-sorted
move_literals-literals-requires-clause-sorted c = rw c.as_slice.ensures.value (IsNonDecreasingBy-from_sort (λ x. x) _ c.sort_unstable.ensures.sorted)

pub made_of-requires : goal.made_of-requires
made_of-requires c = subst IsClause (sym c.move_literals-literals.ensures.list) (listed_form _ c.self.invariant.valid)

pub empty_out-requires-clause-within : goal.empty_out-requires-clause-within
empty_out-requires-clause-within c = rw c.as_slice-in-Err.ensures.value (within_sorted _ _ _ c.sort_unstable.ensures.permutation c.self.invariant.within)

pub empty_out-requires-clause-noted : goal.empty_out-requires-clause-noted
empty_out-requires-clause-noted c = rw c.as_slice-in-Err.ensures.value (noted_sorted _ _ _ c.sort_unstable.ensures.permutation c.self.invariant.noted)

pub returns-in-Ok-clause-empty : goal.returns-in-Ok-clause-empty
returns-in-Ok-clause-empty c = listed_none _ c.move_literals-literals.ensures.empty

pub returns-in-Err-clause-empty : goal.returns-in-Err-clause-empty
returns-in-Err-clause-empty c = listed_none _ c.empty_out.ensures.empty
