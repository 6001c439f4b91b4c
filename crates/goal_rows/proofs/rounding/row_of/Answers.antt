use Rattle.std.proofs.Common.{rules, w64, ◌^◌, ◌+◌, ℤ, pos, ◌+ℤ◌, ◌-ℤ◌, ◌*ℤ◌, ◌<ℤ◌, subst, arith, refl}
use Rattle.std.proofs.lemmas.Int.{ints, to_z-of_z}
use Rattle.form_build.specs.Forms.{linear_at}
use Rattle.form_build.proofs.Linears.{numbers_within, linear_more}
use Rattle.goal_rows.proofs.CoverLaws.{rounded_below}
use Rattle.goal_rows.proofs.rounding.row_of.Goals as goal

pub plus-requires-clause-left : goal.plus-requires-clause-left
plus-requires-clause-left c = numbers_within c.args.maker.now.domains (2 ^ 19) (2 ^ 61) c.args.q.now.sum (omega arith) c.requires.quotient.linear

pub plus-requires-clause-right : goal.plus-requires-clause-right
plus-requires-clause-right c =
    let small = c.if-not-is_rounded.ensures.small refl in
    numbers_within c.args.maker.now.domains (2 ^ 20) (2 ^ 61) c.number-number.result (omega arith)
    (linear_more _ (2 ^ 20) c.args.maker.now.domains c.number-number.result small (c.number-number.ensures.linear c.args.maker.now.domains))

pub is_small-requires : goal.is_small-requires
is_small-requires c =
    let small = c.if-not-is_rounded.ensures.small refl in
    linear_more (2 ^ 19 + 2 ^ 20) (2 ^ 60) c.args.maker.now.domains c.in_ok-sum.sum (omega arith)
    (c.in_ok-sum.ensures.linear c.args.maker.now.domains (2 ^ 19) (2 ^ 20) c.requires.quotient.linear
    (linear_more _ (2 ^ 20) c.args.maker.now.domains c.number-number.result small (c.number-number.ensures.linear c.args.maker.now.domains)))

pub returns : goal.returns
returns c = record {
  linear = c.if-not-is_small.ensures refl;
  adds = λ e a w all.
      let up_is = to_z-of_z w64 c.rounded_up-up.result (search rules) in
      let above =
      subst (λ (v : ℤ). pos 0 <ℤ ((pos c.args.q.now.times *ℤ (pos 1 -ℤ v)) +ℤ c.args.q.now.rest)) up_is (c.if-not-is_rounded.ensures.above refl) in
      let below = rounded_below c.args.q.now.times (linear_at c.args.f.now a) (linear_at c.args.q.now.sum a) c.args.q.now.rest c.rounded_up-up.result (c.requires.quotient.value a) (c.requires.follows a w all) above in
      let sum = c.in_ok-sum.ensures.value a in
      let number = c.number-number.ensures.value a in
      omega (arith, ints, below, sum, number, up_is);
  takes = λ e. absurd (grind (arith, e));
}
