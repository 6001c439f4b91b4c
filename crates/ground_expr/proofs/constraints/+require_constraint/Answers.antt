use Rattle.std.proofs.Common.{◌∙◌, true, [], ap, sym, subst}
use Rattle.std.proofs.lemmas.Result.{on_ok_weaker}
use Rattle.conf_types.specs.Trees.{Tree}
use Rattle.conf_types.specs.declared.tree.RQuant as quant
use Rattle.conf_types.specs.TreeOf.{tree_of, node_tree, quant_tree, optional_tree, trees_of}
use Rattle.conf_eval.proofs.EvalLaws.{quant_is, quant_moved}
use Rattle.form_build.specs.Worlds.{AreKnown}
use Rattle.expr_forms.specs.Standing.{bare_setting}
use Rattle.ground_expr.specs.StandsWhole.{StandsWhole}
use Rattle.ground_expr.proofs.Stating.{says_at, says_moved}
use Rattle.ground_expr.proofs.StandingWhole.{stands_moved, not_compared}
use Rattle.ground_expr.proofs.Steps.{stand_at}
use Rattle.ground_expr.proofs.constraints.+require_constraint.Goals as goal

pub require_whole-requires-clause-standing : goal.require_whole-requires-clause-standing
require_whole-requires-clause-standing t c =
    let scene = c.args.scene.now in
    let o = scene.objects.now in
    let at = c.args.e.now.at in
    let q = c.deref-then-is_whole.result.now in
    let is = ap (λ n. node_tree n at) c.in-Quant.is ∙ ap (λ q. quant_tree q at) (sym c.deref-then-is_whole.ensures) in
    quant_moved o [] (bare_setting o scene.this scene.vars.now) q at 0 (stand_at o scene.known.now scene.this scene.vars.now (tree_of c.args.e.now) (quant_tree q at) is c.requires.standing)

pub returns-then-is_whole : goal.returns-then-is_whole
returns-then-is_whole t c =
    let scene = c.args.scene.now in
    let o = scene.objects.now in
    let at = c.args.e.now.at in
    let q = c.deref-then-is_whole.result.now in
    let old = c.args.maker.now in
    let new = c.require_whole.new.maker in
    let is = ap (λ n. node_tree n at) c.in-Quant.is ∙ ap (λ q. quant_tree q at) (sym c.deref-then-is_whole.ensures) in
    record {
      says = on_ok_weaker c.require_whole.result
          (λ h. says_at o scene.known.now scene.this scene.vars.now old new (tree_of c.args.e.now) (quant_tree q at) true is (says_moved o scene.known.now scene.this scene.vars.now old new q 0 at true h)) c.require_whole.ensures.says;
      whole = on_ok_weaker c.require_whole.result
          (λ h. subst (λ (z : Tree). StandsWhole o new (AreKnown scene.known.now) z scene.this scene.vars.now) (sym is) (stands_moved o scene.this scene.vars.now new (AreKnown scene.known.now) q 0 at h)) c.require_whole.ensures.whole;
    }

pub returns-else-is_whole-clause-whole : goal.returns-else-is_whole-clause-whole
returns-else-is_whole-clause-whole t c =
    let scene = c.args.scene.now in
    let o = scene.objects.now in
    let at = c.args.e.now.at in
    let q = c.deref-in-Quant.result.now in
    let r = quant.out-RQuant q in
    let new = c.require_at.new.maker in
    let is = ap (λ n. node_tree n at) c.in-Quant.is ∙ ap (λ q. quant_tree q at) (sym c.deref-in-Quant.ensures) ∙ quant_is q at in
    on_ok_weaker c.require_at.result
    (λ h. subst (λ (z : Tree). StandsWhole o new (AreKnown scene.known.now) z scene.this scene.vars.now) (sym is)
    (not_compared o scene.this scene.vars.now new (AreKnown scene.known.now) at r.kind (tree_of r.over) (optional_tree r.filter) (trees_of r.body.items) (sym c.is_whole.ensures.whole ∙ c.if-is_whole.false)))
    c.require_at.ensures.says
