use Rattle.std.proofs.Common.{◌^◌, ◌*◌, arith}
use Rattle.std.proofs.lemmas.Int.{ints}
use Rattle.form_build.specs.Forms.{linear_at}
use Rattle.form_build.proofs.Linears.{numbers_within, linear_more, minus_one}
use Rattle.packing_sums.proofs.amounts.amount_less.Goals as goal

pub times-requires : goal.times-requires
times-requires c = record { numbers = numbers_within c.args.maker.now.domains (2 ^ 41) (2 ^ 62) c.args.f.now (omega arith) c.requires.linear }

pub plus-requires-clause-left : goal.plus-requires-clause-left
plus-requires-clause-left c = numbers_within c.args.maker.now.domains (1 * 2 ^ 41) (2 ^ 61) c.in_ok-less.less (omega arith) (c.in_ok-less.ensures.linear c.args.maker.now.domains (2 ^ 41) c.requires.linear)

pub plus-requires-clause-right : goal.plus-requires-clause-right
plus-requires-clause-right c = numbers_within c.args.maker.now.domains c.args.n (2 ^ 61) c.amount-number.result (omega (arith, c.requires.small)) (c.amount-number.ensures.linear c.args.maker.now.domains)

pub returns-clause-value : goal.returns-clause-value
returns-clause-value c a =
    let sum = c.in_ok-r.ensures.value a in
    let less = c.in_ok-less.ensures.value a in
    let number = c.amount-number.ensures.value a in
    let one = minus_one (linear_at c.args.f.now a) in
    omega (arith, ints, sum, less, number, one)

pub returns-clause-linear : goal.returns-clause-linear
returns-clause-linear c m h =
    let less = linear_more (1 * m) m c.args.maker.now.domains c.in_ok-less.less (omega arith) (c.in_ok-less.ensures.linear c.args.maker.now.domains m h) in
    c.in_ok-r.ensures.linear c.args.maker.now.domains m c.args.n less (c.amount-number.ensures.linear c.args.maker.now.domains)
