use Rattle.std.proofs.Common.{◌≡◌, sym, subst, IfOk}
use Rattle.signed_clause.specs.Ranges.{Ranges, IsValid}
use Rattle.signed_clause.specs.SetAlgebra.{meet}
use Rattle.signed_clause.proofs.RangeSteps.{IsValid-meet, has-meet_valid}
use Rattle.signed_clause.proofs.SetFacts.{meet_first, meet_second}
use Rattle.signed_clause.proofs.int_set.IntSet.meet.Goals as goal

pub returns-then-is_long_within-clause-list : goal.returns-then-is_long_within-clause-list
returns-then-is_long_within-clause-list c =
    let same = meet_first _ _ c.ranges-a.ensures.valid c.ranges-b.ensures.valid (c.is_long_within.ensures c.if-is_long_within.true) in
    subst (λ (z : Ranges). IfOk c.copy.result (λ s. s ≡ z)) same c.copy.ensures.list

pub returns-then-is_long_within-2-clause-list : goal.returns-then-is_long_within-2-clause-list
returns-then-is_long_within-2-clause-list c =
    let same = meet_second _ _ c.ranges-a.ensures.valid c.ranges-b.ensures.valid (c.is_long_within-2.ensures c.if-is_long_within-2.true) in
    subst (λ (z : Ranges). IfOk c.copy-then-is_long_within-2.result (λ s. s ≡ z)) same c.copy-then-is_long_within-2.ensures.list

-- the ranges that were made are the common ones
made : (c : goal.In_ok-ranges) → c.in_ok-ranges.ranges ≡ meet c.args.self.now c.args.o.now
made c = let a = c.ranges-a.ensures.items in let b = c.ranges-b.ensures.items in let out = c.in_ok-common.ensures in let own = c.in_ok-ranges.ensures in cc

-- and still where the list that they were made from is let go
made_all : (c : goal.Joined-common-2) → c.in_ok-ranges.ranges ≡ meet c.args.self.now c.args.o.now
made_all c = let a = c.ranges-a.ensures.items in let b = c.ranges-b.ensures.items in let out = c.in_ok-common.ensures in let own = c.in_ok-ranges.ensures in cc

pub invariant_of-result : goal.invariant_of-result
invariant_of-result c = subst IsValid (sym (made c)) (IsValid-meet _ _ c.ranges-a.ensures.valid c.ranges-b.ensures.valid)

pub returns-clause-values : goal.returns-clause-values
returns-clause-values c v = let e = has-meet_valid _ _ c.ranges-a.ensures.valid c.ranges-b.ensures.valid v in let same = made_all c in cc

pub returns-clause-valid : goal.returns-clause-valid
returns-clause-valid c = subst IsValid (sym (made_all c)) (IsValid-meet _ _ c.ranges-a.ensures.valid c.ranges-b.ensures.valid)
