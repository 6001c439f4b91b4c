use Rattle.std.proofs.Common.{◌||◌, Bool, not, ap, ◌∙◌}
use Rattle.signed_clause.specs.Clauses.{Literals}
use Rattle.form_build.specs.declared.form.Truth.{Truth}
use Rattle.form_build.specs.Forms.{truth_at}
use Rattle.form_build.proofs.Growth.{world_before}
use Rattle.form_truths.specs.Disjunctions.{disjunction_at}
use Rattle.conf_eval.specs.Meaning.{truth_of}
use Rattle.expr_forms.specs.FormValues.{form_value}
use Rattle.expr_forms.proofs.PartValues.{truth_part_at}
use Rattle.quantifier_forms.proofs.CaseLaws.{fault_is}
use Rattle.quantifier_forms.proofs.cases.fault_of.Goals as goal

pub returns-clause-value : goal.returns-clause-value
returns-clause-value c a w =
    let before = world_before c.args.maker.now c.none_from.new.maker a c.in_ok-fault.ensures.adds.grows w in
    fault_is (truth_at c.args.kept.now a) (truth_of (form_value c.args.body.now a)) (disjunction_at c.push_turned.new.d a) (disjunction_at c.push.new.self a) (truth_at c.in_ok-fault.fault a)
    (c.in_ok-push_turned.ensures.value a before ∙ ap (λ (d : Bool × Literals). not (truth_at c.args.kept.now a) || disjunction_at d a) c.new-spared.ensures)
    (c.in_ok-push.ensures.value a ∙ ap (λ (b : Bool). b || disjunction_at c.push_turned.new.d a) (ap (λ (t : Truth). truth_at t a) c.in_ok-t.ensures ∙ truth_part_at c.args.body.now a))
    (c.in_ok-fault.ensures.value a w)
