use Rattle.std.proofs.Common.{◌∙◌, None, [], refl, sym, subst, arith}
use Rattle.std.specs.Prelude.{All}
use Rattle.conf_types.specs.Programs.{ResolvedGoal}
use Rattle.conf_types.specs.TreeOf.{tree_of}
use Rattle.conf_eval.specs.Fitting.{IsEvaluable}
use Rattle.conf_eval.specs.Satisfying.{setting}
use Rattle.conf_eval.proofs.CallLaws.{evaluable_there}
use Rattle.conf_eval.proofs.LawsStated.{model_evaluable}
use Rattle.language_tests.proofs.ValueRows.{first_of_all}
use Rattle.language_tests.proofs.judged.first_value.Goals as goal

pub eval-requires-clause-expr : goal.eval-requires-clause-expr
eval-requires-clause-expr c =
    let o = c.args.objects.now in
    let vs = c.args.config.now in
    let gs = c.goals-goals.result.now in
    let d = c.index-goals-0.result in
    let same = c.goals-goals.ensures.goals in
    let stated = model_evaluable o vs c.args.m.now.constraints c.args.m.now.goals c.requires.typed c.requires.narrow in
    let Fits : ResolvedGoal → Type 0 = λ g. IsEvaluable o vs g.tree (setting o vs None) in
    let there = first_of_all Fits gs d (omega (arith, c.if-goals-eq0.false)) (subst (All Fits) (sym same) stated.goals) in
    let here = subst Fits (sym c.goal.view_is) (subst Fits (sym c.index-goals-0.is) there) in
    evaluable_there o None (tree_of c.goal.inside.expr) vs vs [] c.of.result refl (c.of.ensures.items ∙ c.new.ensures.items) here
