use Rattle.std.proofs.Common.{◌≡◌, sym, subst}
use Rattle.signed_clause.specs.Ranges.{IsValid}
use Rattle.signed_clause.specs.SetAlgebra.{less}
use Rattle.signed_clause.proofs.RangeSteps.{IsValid-less, has-less_valid}
use Rattle.signed_clause.proofs.int_set.IntSet.less.Goals as goal

-- the ranges that were made are those that are left
made : (c : goal.In_ok-ranges) → c.in_ok-ranges.ranges ≡ less c.args.self.now c.args.o.now
made c = let a = c.ranges-a.ensures.items in let b = c.ranges-b.ensures.items in let out = c.in_ok-rest.ensures in let own = c.in_ok-ranges.ensures in cc

-- and still where the list that they were made from is let go
made_all : (c : goal.Joined-rest-2) → c.in_ok-ranges.ranges ≡ less c.args.self.now c.args.o.now
made_all c = let a = c.ranges-a.ensures.items in let b = c.ranges-b.ensures.items in let out = c.in_ok-rest.ensures in let own = c.in_ok-ranges.ensures in cc

pub invariant_of-result : goal.invariant_of-result
invariant_of-result c = subst IsValid (sym (made c)) (IsValid-less _ _ c.ranges-a.ensures.valid c.ranges-b.ensures.valid)

pub returns-clause-values : goal.returns-clause-values
returns-clause-values c v = let e = has-less_valid _ _ c.ranges-a.ensures.valid c.ranges-b.ensures.valid v in let same = made_all c in cc

pub returns-clause-valid : goal.returns-clause-valid
returns-clause-valid c = subst IsValid (sym (made_all c)) (IsValid-less _ _ c.ranges-a.ensures.valid c.ranges-b.ensures.valid)
