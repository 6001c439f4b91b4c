use Rattle.quantifier_forms.proofs.TruthForms.{forall_form, exists_form}
use Rattle.quantifier_forms.proofs.quantified.quantified_form.Goals as goal

pub returns-in_ok-t-in-Forall-clause-form : goal.returns-in_ok-t-in-Forall-clause-form
returns-in_ok-t-in-Forall-clause-form c =
    forall_form c.args.maker.now c.no_fault.new.maker c.args.kind c.args.parts.now c.in_ok-t-in-Forall.t c.in_ok-t-in-Forall.ensures.variable c.in-Forall.is c.in_ok-t-in-Forall.ensures.value

pub returns-in_ok-t-in-Exists-clause-form : goal.returns-in_ok-t-in-Exists-clause-form
returns-in_ok-t-in-Exists-clause-form c =
    exists_form c.args.maker.now c.some_case.new.maker c.args.kind c.args.parts.now c.in_ok-t-in-Exists.t c.in_ok-t-in-Exists.ensures.variable c.in-Exists.is c.in_ok-t-in-Exists.ensures.value
