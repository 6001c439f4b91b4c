use Rattle.std.proofs.Common.{◌^◌, ◌*◌, arith}
use Rattle.std.proofs.lemmas.Int.{ints}
use Rattle.form_build.specs.Forms.{linear_at}
use Rattle.form_build.proofs.Linears.{numbers_within, linear_more, minus_one}
use Rattle.goal_rows.proofs.dividing.less.Goals as goal

pub times-requires : goal.times-requires
times-requires c = record { numbers = numbers_within c.args.maker.now.domains (2 ^ 50) (2 ^ 62) c.args.o.now (omega arith) c.requires.right }

pub plus-requires-clause-left : goal.plus-requires-clause-left
plus-requires-clause-left c = numbers_within c.args.maker.now.domains (2 ^ 50) (2 ^ 61) c.args.f.now (omega arith) c.requires.left

pub plus-requires-clause-right : goal.plus-requires-clause-right
plus-requires-clause-right c = numbers_within c.args.maker.now.domains (1 * 2 ^ 50) (2 ^ 61) c.in_ok-turned.turned (omega arith) (c.in_ok-turned.ensures.linear c.args.maker.now.domains (2 ^ 50) c.requires.right)

pub returns-clause-linear : goal.returns-clause-linear
returns-clause-linear c m n h k =
    c.in_ok-r.ensures.linear c.args.maker.now.domains m n h
    (linear_more (1 * n) n c.args.maker.now.domains c.in_ok-turned.turned (omega arith) (c.in_ok-turned.ensures.linear c.args.maker.now.domains n k))

pub returns-clause-value : goal.returns-clause-value
returns-clause-value c a =
    let sum = c.in_ok-r.ensures.value a in
    let less = c.in_ok-turned.ensures.value a in
    let one = minus_one (linear_at c.args.o.now a) in
    omega (arith, ints, sum, less, one)
