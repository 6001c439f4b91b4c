use Rattle.std.proofs.Common.{◌∙◌, arith, ◌+◌, ◌^◌}
use Rattle.std.proofs.lemmas.Int.{ints}
use Rattle.form_build.proofs.Linears.{linear_more, numbers_within, sum_wider}
use Rattle.form_build.proofs.arithmetic.plus.Goals as goal

pub plus-requires-clause-left : goal.plus-requires-clause-left
plus-requires-clause-left c = numbers_within c.args.b.now.domains (2 ^ 58) (2 ^ 61) c.args.f.now (omega arith) c.requires.left

pub plus-requires-clause-right : goal.plus-requires-clause-right
plus-requires-clause-right c = numbers_within c.args.b.now.domains (2 ^ 58) (2 ^ 61) c.args.g.now (omega arith) c.requires.right

pub fit-requires-clause-linear : goal.fit-requires-clause-linear
fit-requires-clause-linear c =
    linear_more (2 ^ 58 + 2 ^ 58) (2 ^ 60) c.args.b.now.domains c.in_ok-both.both (omega arith)
    (c.in_ok-both.ensures.linear c.args.b.now.domains (2 ^ 58) (2 ^ 58) c.requires.left c.requires.right)

pub fit-requires-clause-narrow : goal.fit-requires-clause-narrow
fit-requires-clause-narrow c =
    let low = c.in_ok-both.ensures.low c.args.b.now.domains in
    let high = c.in_ok-both.ensures.high c.args.b.now.domains in
    record { low_is = omega (arith, ints, low, c.requires.low); high_is = omega (arith, ints, high, c.requires.high) }

pub returns-clause-value : goal.returns-clause-value
returns-clause-value c a w = c.in_ok-r.ensures.value a w ∙ c.in_ok-both.ensures.value a

pub returns-clause-sum : goal.returns-clause-sum
returns-clause-sum c =
    let boxes = c.args.b.now.domains in
    sum_wider _ _ _ _ _ c.in_ok-r.r (c.in_ok-both.ensures.low boxes) (c.in_ok-both.ensures.high boxes) c.in_ok-r.ensures.sum
