use Rattle.std.proofs.Common.{◌^◌, arith}
use Rattle.std.proofs.lemmas.Int.{ints}
use Rattle.form_build.proofs.Linears.{numbers_within}
use Rattle.packing_sums.proofs.amounts.less_amount.Goals as goal

pub plus-requires-clause-left : goal.plus-requires-clause-left
plus-requires-clause-left c = numbers_within c.args.maker.now.domains (2 ^ 41) (2 ^ 61) c.args.f.now (omega arith) c.requires.linear

pub plus-requires-clause-right : goal.plus-requires-clause-right
plus-requires-clause-right c = numbers_within c.args.maker.now.domains c.args.n (2 ^ 61) c.lack-less.result (omega (arith, c.requires.small)) (c.lack-less.ensures.linear c.args.maker.now.domains)

pub returns-clause-value : goal.returns-clause-value
returns-clause-value c a = let sum = c.in_ok-r.ensures.value a in let less = c.lack-less.ensures.value a in omega (arith, ints, sum, less)

pub returns-clause-linear : goal.returns-clause-linear
returns-clause-linear c m h = c.in_ok-r.ensures.linear c.args.maker.now.domains m c.args.n h (c.lack-less.ensures.linear c.args.maker.now.domains)
