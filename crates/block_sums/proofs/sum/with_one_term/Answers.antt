use Rattle.std.proofs.Common.{◌^◌, ◌*◌, arith}
use Rattle.std.proofs.lemmas.Int.{ints}
use Rattle.form_build.specs.Forms.{linear_at}
use Rattle.form_build.proofs.Linears.{numbers_within, linear_more, minus_one}
use Rattle.block_sums.proofs.sum.with_one_term.Goals as goal

pub times-requires : goal.times-requires
times-requires c = record { numbers = numbers_within c.args.b.now.domains (2 ^ 60) (2 ^ 62) c.args.f.now (omega arith) c.requires.linear }

pub of_variable-requires-2 : goal.of_variable-requires-2
of_variable-requires-2 c = record {
  linear = linear_more (1 * 2 ^ 60) (2 ^ 60) c.args.b.now.domains c.in_ok-turned.turned (omega arith) (c.in_ok-turned.ensures.linear c.args.b.now.domains (2 ^ 60) c.requires.linear);
}

pub times-requires-2 : goal.times-requires-2
times-requires-2 c = record { numbers = numbers_within c.of_variable-2.new.b.domains (2 ^ 60) (2 ^ 62) c.in_ok-g.g (omega arith) c.in_ok-g.ensures.linear }

pub returns-clause-value : goal.returns-clause-value
returns-clause-value c a w =
    let back = c.in_ok-back.ensures.value a in
    let turned = c.in_ok-turned.ensures.value a in
    let g = c.in_ok-g.ensures.value a w in
    let one = minus_one (linear_at c.in_ok-g.g a) in
    let two = minus_one (linear_at c.args.f.now a) in
    omega (arith, ints, back, turned, g, one, two)

pub returns-clause-linear : goal.returns-clause-linear
returns-clause-linear c =
    linear_more (1 * 2 ^ 60) (2 ^ 60) c.of_variable-2.new.b.domains c.in_ok-back.back (omega arith) (c.in_ok-back.ensures.linear c.of_variable-2.new.b.domains (2 ^ 60) c.in_ok-g.ensures.linear)
