use Rattle.std.proofs.Common.{◌≡◌, ◌<◌, None, [], sym, ap, ◌∙◌, subst, refl, length, get_or}
use Rattle.conf_types.specs.Programs.{ResolvedGoal}
use Rattle.conf_types.specs.TreeOf.{tree_of}
use Rattle.conf_eval.specs.Fitting.{IsEvaluable}
use Rattle.conf_eval.specs.Meaning.{int_of}
use Rattle.conf_eval.specs.Satisfying.{setting, objective, objectives}
use Rattle.conf_eval.proofs.LawsStated.{model_evaluable}
use Rattle.conf_eval.proofs.CallLaws.{evaluable_there, value_there, nth_of_all, push_rest}
use Rattle.conf_eval.proofs.calls.objectives.Goals as goal

pub value_at-requires-clause-expr : goal.value_at-requires-clause-expr
value_at-requires-clause-expr c =
    let o = c.args.objects.now in
    let vs = c.args.config.now in
    let gs = c.args.model.now.goals in
    let x = c.goal-item.result in
    let i = c.loop-goal.goal-index in
    let e = c.goals-goal-items.ensures.goals in
    let stated = model_evaluable o vs c.args.model.now.constraints gs c.requires.typed c.requires.narrow in
    let here = nth_of_all (λ (g : ResolvedGoal). IsEvaluable o vs g.tree (setting o vs None)) gs i x (subst (λ ys. i < length ys) e c.loop-goal-test.true) (subst (λ ys. x ≡ get_or ys i x) e c.goal-item.is) stated.goals in
    evaluable_there o None (tree_of c.goal.inside.expr) vs c.items.result.now [] [] c.items.ensures.values refl
    (subst (λ (g : ResolvedGoal). IsEvaluable o vs g.tree (setting o vs None)) (sym c.goal.view_is) here)

pub loop-goal-preserved : goal.loop-goal-preserved
loop-goal-preserved c =
    let o = c.args.objects.now in
    let vs = c.args.config.now in
    let gs = c.args.model.now.goals in
    let x = c.goal-item.result in
    let i = c.loop-goal.goal-index in
    let e = c.goals-goal-items.ensures.goals in
    let number =
    ap int_of (c.in_ok-value.ensures.value ∙ value_there o None (tree_of c.goal.inside.expr) vs c.items.result.now [] [] c.items.ensures.values refl)
    ∙ ap (objective o vs) c.goal.view_is in
    push_rest (objective o vs) gs i x c.loop-goal.numbers.items c.push_number.new.numbers.items (objectives o gs vs) (int_of c.in_ok-value.value) (subst (λ ys. i < length ys) e c.loop-goal-test.true) (subst (λ ys. x ≡ get_or ys i x) e c.goal-item.is) number c.in_ok-push_number.ensures.pushed c.loop-goal.invariant
