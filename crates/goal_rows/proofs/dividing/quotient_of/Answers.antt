use Rattle.std.proofs.Common.{rules, w64, ℤ, pos, ◌^◌, ◌+ℤ◌, ◌*ℤ◌, ◌∙◌, sym, ap, arith, refl}
use Rattle.std.proofs.lemmas.Int.{to_z-of_z}
use Rattle.form_build.specs.Forms.{linear_at}
use Rattle.form_build.proofs.Linears.{linear_more}
use Rattle.goal_rows.proofs.QuotientLaws.{quotient_value}
use Rattle.goal_rows.proofs.dividing.quotient_of.Goals as goal

pub divided_terms-requires : goal.divided_terms-requires
divided_terms-requires c = let few = c.if-not-is_factor.ensures refl in omega (arith, few)

pub less-requires-clause-left : goal.less-requires-clause-left
less-requires-clause-left c = linear_more (2 ^ 21) (2 ^ 50) c.args.maker.now.domains c.args.f.now (omega arith) c.requires

pub less-requires-clause-right : goal.less-requires-clause-right
less-requires-clause-right c = linear_more (2 ^ 37) (2 ^ 50) c.args.maker.now.domains c.in_ok-whole.whole (omega arith) c.in_ok-whole.ensures.linear

pub returns : goal.returns
returns c = record {
  linear = c.in-Some-light_sum.ensures;
  times = c.if-not-is_factor.ensures refl;
  value = λ a.
      quotient_value c.args.f.now c.in_ok-whole.whole c.in_ok-rest.rest c.in-Some-light_sum.sum c.least_factor-n.result a (c.if-not-is_number.ensures refl) (c.in_ok-whole.ensures.value a) (c.in_ok-rest.ensures.value a)
      ∙ ap (λ (v : ℤ). (pos c.least_factor-n.result *ℤ linear_at c.in-Some-light_sum.sum a) +ℤ v) (sym (to_z-of_z w64 c.in_ok-rest.rest.offset (search rules)));
}
