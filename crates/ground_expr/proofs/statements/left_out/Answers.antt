use Rattle.std.proofs.Common.{◌∙◌, ◌&&◌, not, Option, ap, sym, subst, []}
use Rattle.conf_types.specs.declared.tree.RExpr.{RExpr}
use Rattle.conf_types.specs.TreeOf.{tree_of, optional_tree}
use Rattle.conf_eval.specs.Meaning.{keeps}
use Rattle.signed_clause.specs.Clauses.{Boxes}
use Rattle.form_build.specs.Forms.{truth_at}
use Rattle.form_build.specs.Worlds.{IsInBoxes}
use Rattle.form_build.proofs.Growth.{adds_nothing, world_before}
use Rattle.expr_forms.specs.Standing.{world_setting}
use Rattle.ground_expr.proofs.Stating.{not_kept}
use Rattle.ground_expr.proofs.statements.left_out.Goals as goal

pub returns-in-None-clause-adds : goal.returns-in-None-clause-adds
returns-in-None-clause-adds c = adds_nothing [] c.args.maker.now

pub returns-in_ok-push_at-in-Some-clause-value : goal.returns-in_ok-push_at-in-Some-clause-value
returns-in_ok-push_at-in-Some-clause-value c a w kn =
    let scene = c.args.scene.now in
    let new = c.push_at.new.maker in
    let pushes = c.in_ok-push_at-in-Some.ensures.pushes in
    let before = world_before c.args.maker.now new a pushes.adds.grows w in
    not_kept scene.objects.now scene.known.now scene.this scene.vars.now new c.args.is.now c.in_ok-outside.outside (tree_of c.in-Some.e) c.new-some.result c.push.new.self c.push_at.new.some a c.new-some.ensures
    (c.in_ok-outside.ensures.value a (subst (λ (z : Boxes). IsInBoxes z a) (sym c.domains.ensures.items) before.within)) (c.in_ok-push.ensures.value a) (pushes.value a w kn)
    ∙ ap (λ (f : Option RExpr). not (truth_at c.args.is.now a && keeps (optional_tree f) (world_setting scene.objects.now new a scene.this scene.vars.now))) (sym c.in-Some.is)
