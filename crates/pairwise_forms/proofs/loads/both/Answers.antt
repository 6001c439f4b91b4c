use Rattle.std.proofs.Common.{◌||◌, Bool, not, ap, ◌∙◌}
use Rattle.signed_clause.specs.Clauses.{Literals}
use Rattle.form_build.specs.Forms.{truth_at}
use Rattle.form_build.proofs.Growth.{world_before}
use Rattle.form_truths.specs.Disjunctions.{disjunction_at}
use Rattle.pairwise_forms.proofs.LoadSteps.{both_is}
use Rattle.pairwise_forms.proofs.loads.both.Goals as goal

pub returns-clause-value : goal.returns-clause-value
returns-clause-value c a w =
    let before = world_before c.args.maker.now c.none_from.new.maker a c.in_ok-u.ensures.adds.grows w in
    both_is (truth_at c.args.s.now a) (truth_at c.args.t.now a) (disjunction_at c.push_turned.new.d a) (disjunction_at c.push_turned-2.new.d a) (truth_at c.in_ok-u.u a)
    (c.in_ok-push_turned.ensures.value a before ∙ ap (λ (d : Bool × Literals). not (truth_at c.args.s.now a) || disjunction_at d a) c.new-lacking.ensures)
    (c.in_ok-push_turned-2.ensures.value a before)
    (c.in_ok-u.ensures.value a w)
