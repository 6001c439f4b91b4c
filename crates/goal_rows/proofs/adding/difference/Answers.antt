use Rattle.std.proofs.Common.{◌^◌, ◌+◌, ◌*◌, ◌≡◌, List, ℤ, pos, arith}
use Rattle.form_build.specs.Worlds.{IsWorld, AllHold}
use Rattle.std.proofs.lemmas.Int.{ints}
use Rattle.form_build.specs.Forms.{linear_at}
use Rattle.form_build.proofs.Linears.{numbers_within, linear_more, minus_one}
use Rattle.goal_rows.proofs.adding.difference.Goals as goal

pub times-requires : goal.times-requires
times-requires c = record { numbers = numbers_within c.args.maker.now.domains (2 ^ 19) (2 ^ 62) c.in_ok-own.own (omega arith) (linear_more _ (2 ^ 19) c.args.maker.now.domains c.in_ok-own.own c.requires.near c.in_ok-own.ensures.linear) }

pub plus-requires-clause-left : goal.plus-requires-clause-left
plus-requires-clause-left c = numbers_within c.args.maker.now.domains (2 ^ 19) (2 ^ 61) c.args.number.now (omega arith) c.requires.number

pub plus-requires-clause-right : goal.plus-requires-clause-right
plus-requires-clause-right c =
    numbers_within c.args.maker.now.domains (1 * 2 ^ 19) (2 ^ 61) c.in_ok-less.less (omega arith)
    (c.in_ok-less.ensures.linear c.args.maker.now.domains (2 ^ 19) (linear_more _ (2 ^ 19) c.args.maker.now.domains c.in_ok-own.own c.requires.near c.in_ok-own.ensures.linear))

pub returns : goal.returns
returns c =
    let linear =
    linear_more (2 ^ 19 + 1 * 2 ^ 19) (2 ^ 20) c.args.maker.now.domains c.in_ok-sum.sum (omega arith)
    (c.in_ok-sum.ensures.linear c.args.maker.now.domains (2 ^ 19) (1 * 2 ^ 19) c.requires.number
    (c.in_ok-less.ensures.linear c.args.maker.now.domains (2 ^ 19) (linear_more _ (2 ^ 19) c.args.maker.now.domains c.in_ok-own.own c.requires.near c.in_ok-own.ensures.linear))) in
    let nought : (a : List ℤ) → IsWorld c.args.maker.now a → AllHold c.args.maker.now a → linear_at c.in_ok-sum.sum a ≡ pos 0 = λ a w all.
    let sum = c.in_ok-sum.ensures.value a in
    let less = c.in_ok-less.ensures.value a in
    let one = minus_one (linear_at c.in_ok-own.own a) in
    let own = c.in_ok-own.ensures.value a w.within in
    let goal_is = c.requires.value a w all in
    omega (arith, ints, sum, less, one, own, goal_is) in
    record {
      linear = linear;
      adds = λ e a w all. let nil = nought a w all in omega (arith, ints, nil);
      takes = λ e a w all. let nil = nought a w all in omega (arith, ints, nil);
    }
