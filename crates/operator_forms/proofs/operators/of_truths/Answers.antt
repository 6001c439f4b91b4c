use Rattle.std.proofs.Common.{◌∙◌, ap}
use Rattle.form_build.specs.declared.form.Truth.{Truth}
use Rattle.form_build.specs.Forms.{truth_at}
use Rattle.expr_forms.specs.FormValues.{truth_part}
use Rattle.operator_forms.specs.Operating.{truth_between}
use Rattle.operator_forms.proofs.OperatedValues.{truth_made}
use Rattle.operator_forms.proofs.operators.of_truths.Goals as goal

pub returns-clause-value : goal.returns-clause-value
returns-clause-value c a w =
    let op = c.args.op in
    c.in_ok-t.ensures.value a w
    ∙ ap (λ (z : Truth). truth_between op (truth_at z a) (truth_at c.truth_in-2.result.now a)) c.truth_in.ensures
    ∙ ap (λ (z : Truth). truth_between op (truth_at (truth_part c.args.l.now) a) (truth_at z a)) c.truth_in-2.ensures
    ∙ truth_made op c.args.l.now c.args.r.now a c.requires.joins
