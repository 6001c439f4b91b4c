use Rattle.std.proofs.Common.{◌∙◌, ap}
use Rattle.form_build.specs.declared.form.Linear.{Linear}
use Rattle.form_build.specs.Forms.{linear_at}
use Rattle.expr_forms.specs.FormValues.{number_part}
use Rattle.operator_forms.specs.Operating.{compared_numbers}
use Rattle.operator_forms.proofs.OperatedValues.{comparison_made}
use Rattle.operator_forms.proofs.compare.test_of.Goals as goal

pub returns-clause-value : goal.returns-clause-value
returns-clause-value c a =
    let op = c.args.op in
    c.in_ok-test.ensures.value a
    ∙ ap (λ (z : Linear). compared_numbers op (linear_at z a) (linear_at c.number_in-2.result.now a)) c.number_in.ensures
    ∙ ap (λ (z : Linear). compared_numbers op (linear_at (number_part c.args.l.now) a) (linear_at z a)) c.number_in-2.ensures
    ∙ comparison_made op c.args.l.now c.args.r.now a c.requires.compares
