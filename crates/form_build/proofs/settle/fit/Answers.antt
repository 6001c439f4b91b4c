use Rattle.std.proofs.Common.{◌≡◌, ◌^◌, ◌∙◌, [], false, ap, sym}
use Rattle.std.specs.Prelude.{nat_le}
use Rattle.signed_clause.specs.Clauses.{Boxes}
use Rattle.form_build.specs.Sums.{linear_weight}
use Rattle.form_build.proofs.Growth.{adds_nothing}
use Rattle.form_build.proofs.Fitting.{fit_sum}
use Rattle.form_build.proofs.Singles.{variable_at}
use Rattle.form_build.proofs.settle.fit.Goals as goal

pub returns-then-is_light-clause-adds : goal.returns-then-is_light-clause-adds
returns-then-is_light-clause-adds c = adds_nothing [] c.args.b.now

pub returns-clause-value : goal.returns-clause-value
returns-clause-value c a w = variable_at c.in_ok-x.x c.in_ok-r.r a c.in_ok-r.ensures ∙ c.in_ok-x.ensures.variable.value a w

pub returns-clause-sum : goal.returns-clause-sum
returns-clause-sum c =
    let heavy : nat_le (linear_weight c.args.f c.args.b.now.domains) (2 ^ 58) ≡ false = sym (ap (λ (z : Boxes). nat_le (linear_weight c.args.f z) (2 ^ 58)) c.domains.ensures.items) ∙ sym c.is_light.ensures ∙ c.if-is_light.false in
    fit_sum c.args.f c.in_ok-r.r c.args.b.now.domains c.linear.new.self c.in_ok-x.x c.in_ok-x.ensures.variable c.in_ok-r.ensures c.requires.linear.terms c.requires.narrow heavy
