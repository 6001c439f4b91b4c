use Rattle.std.proofs.Common.{arith, subst, IsTrue}
use Rattle.decimal_text.proofs.Digits.{not_begun, number_is, refused_digit}
use Rattle.decimal_text.proofs.numbers.number_of.Goals as goal

pub returns-then-not-begins_well-clause-none : goal.returns-then-not-begins_well-clause-none
returns-then-not-begins_well-clause-none c n h e = not_begun c.args.text.now n h e (λ k. let wrong = subst IsTrue c.if-not-begins_well.true (c.begins_well.ensures.1 k) in cc)

pub returns-in-None-clause-none : goal.returns-in-None-clause-none
returns-in-None-clause-none c n h e =
    refused_digit c.args.text.now c.loop-b.n c.loop-b.b-index n h e (omega arith) c.loop-b.invariant.value c.loop-b.invariant.digits c.in-None.ensures.none

pub returns-clause-some : goal.returns-clause-some
returns-clause-some c =
    number_is c.args.text.now c.loop-b.n c.loop-b.b-index c.loop-b-test.false c.loop-b.invariant.value c.loop-b.invariant.digits (c.begins_well.ensures.0 c.if-not-begins_well.false) c.loop-b.invariant.fits
