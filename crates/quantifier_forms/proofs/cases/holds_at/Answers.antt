use Rattle.std.proofs.Common.{◌||◌, Bool, not, List, [], ap, ◌∙◌}
use Rattle.signed_clause.specs.Clauses.{Literals}
use Rattle.form_build.specs.Forms.{truth_at}
use Rattle.form_build.proofs.Growth.{world_before, adds_nothing}
use Rattle.form_truths.specs.Disjunctions.{disjunction_at}
use Rattle.expr_forms.specs.declared.form.Form.{Form}
use Rattle.quantifier_forms.specs.PartValues.{are_true}
use Rattle.quantifier_forms.proofs.CaseLaws.{holds_is}
use Rattle.quantifier_forms.proofs.cases.holds_at.Goals as goal

pub returns-in-Some-clause-adds : goal.returns-in-Some-clause-adds
returns-in-Some-clause-adds c = adds_nothing [] c.args.maker.now

pub returns-clause-value : goal.returns-clause-value
returns-clause-value c a w =
    let before = world_before c.args.maker.now c.none_from.new.maker a c.in_ok-t-2.ensures.adds.grows w in
    holds_is (truth_at c.args.p.now.kept a) (are_true c.args.p.now.bodies.items a) (disjunction_at c.push_turned.new.d a) (disjunction_at c.push_failing.new.d a) (truth_at c.in_ok-t-2.t a)
    (c.in_ok-push_turned.ensures.value a before ∙ ap (λ (d : Bool × Literals). not (truth_at c.args.p.now.kept a) || disjunction_at d a) c.new-faults.ensures)
    (c.in_ok-push_failing.ensures.value a before ∙ ap (λ (fs : List Form). disjunction_at c.push_turned.new.d a || not (are_true fs a)) c.deref.ensures.value)
    (c.in_ok-t-2.ensures.value a w)
