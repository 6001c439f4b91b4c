use Rattle.std.proofs.Common.{◌^◌, ◌+◌, arith, refl}
use Rattle.std.proofs.lemmas.Int.{ints}
use Rattle.form_build.proofs.Linears.{numbers_within, linear_more}
use Rattle.goal_rows.proofs.dividing.sum_of.Goals as goal

pub plus-requires-clause-left : goal.plus-requires-clause-left
plus-requires-clause-left c = numbers_within c.args.maker.now.domains (2 ^ 20) (2 ^ 61) c.args.zero.now.sum (omega arith) c.requires.nought.linear

pub plus-requires-clause-right : goal.plus-requires-clause-right
plus-requires-clause-right c =
    numbers_within c.args.maker.now.domains (2 ^ 19) (2 ^ 61) c.in_ok-own.own (omega arith) (linear_more _ (2 ^ 19) c.args.maker.now.domains c.in_ok-own.own c.requires.near c.in_ok-own.ensures.linear)

pub returns-clause-linear : goal.returns-clause-linear
returns-clause-linear c =
    linear_more (2 ^ 20 + 2 ^ 19) (2 ^ 21) c.args.maker.now.domains c.in_ok-f.f (omega arith)
    (c.in_ok-f.ensures.linear c.args.maker.now.domains (2 ^ 20) (2 ^ 19) c.requires.nought.linear (linear_more _ (2 ^ 19) c.args.maker.now.domains c.in_ok-own.own c.requires.near c.in_ok-own.ensures.linear))

pub returns-clause-value : goal.returns-clause-value
returns-clause-value c a w all =
    let sum = c.in_ok-f.ensures.value a in
    let own = c.in_ok-own.ensures.value a w.within in
    let below = c.requires.nought.adds (c.if-not-is_both.ensures.adds refl) a w all in
    let above = c.requires.nought.takes (c.if-not-is_both.ensures.takes refl) a w all in
    omega (arith, ints, sum, own, below, above)
