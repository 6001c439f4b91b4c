use Rattle.std.proofs.Common.{ap, sym, ◌∙◌, arith}
use Rattle.std.proofs.lemmas.Result.{on_ok_weaker}
use Rattle.conf_types.specs.TreeOf.{tree_of, node_tree}
use Rattle.conf_types.specs.Trees as tree
use Rattle.conf_eval.specs.Evaluating.{height}
use Rattle.expr_forms.proofs.Configured.{cells_still}
use Rattle.expr_forms.proofs.Inside.{in_right}
use Rattle.ground_expr.proofs.Pushing.{pushes_at, pushes_not, pushes_pair}
use Rattle.ground_expr.proofs.Steps.{stand_at}
use Rattle.ground_expr.proofs.pushes.+push_at.Goals as goal

pub push_at-requires-in-Some-2 : goal.push_at-requires-in-Some-2
push_at-requires-in-Some-2 t c =
    let o = c.args.scene.now.objects.now in
    let known = c.args.scene.now.known.now in
    let this = c.args.scene.now.this in
    let vars = c.args.scene.now.vars.now in
    let at = c.args.e.now.at in
    let l = tree_of c.deref-in-Some.result.now in
    let r = tree_of c.deref-in-Some-2.result.now in
    let is = ap (λ n. node_tree n at) c.in-Pair.is ∙ ap (λ x. tree.Pair at c.in-Pair.op (tree_of x) (tree_of c.in-Pair.right.value)) (sym c.deref-in-Some.ensures) ∙ ap (λ x. tree.Pair at c.in-Pair.op l (tree_of x)) (sym c.deref-in-Some-2.ensures) in
    let st = stand_at o known this vars (tree_of c.args.e.now) (tree.Pair at c.in-Pair.op l r) is c.requires.standing in
    let pushes = c.in_ok-push_at-in-Some.ensures.pushes in
    let low = ap height is in
    (omega (arith, c.decreases, low), (in_right o this vars at c.in-Pair.op l r st, (cells_still o c.args.maker.now c.push_at-in-Some.new.maker pushes.adds.grows c.requires.cells, pushes.exist)))

pub returns-in-Not : goal.returns-in-Not
returns-in-Not t c =
    let o = c.args.scene.now.objects.now in
    let known = c.args.scene.now.known.now in
    let this = c.args.scene.now.this in
    let vars = c.args.scene.now.vars.now in
    let at = c.args.e.now.at in
    let inner = tree_of c.deref-in-Not.result.now in
    let is = ap (λ n. node_tree n at) c.in-Not.is ∙ ap (λ x. tree.Not at (tree_of x)) (sym c.deref-in-Not.ensures) in
    record {
      pushes = on_ok_weaker c.push_at-in-Not.result
          (λ h. pushes_at o known this vars c.args.maker.now c.push_at-in-Not.new.maker (tree_of c.args.e.now) (tree.Not at inner) c.args.want c.args.some.now c.push_at-in-Not.new.some is
          (pushes_not o known this vars c.args.maker.now c.push_at-in-Not.new.maker at inner c.args.want c.args.some.now c.push_at-in-Not.new.some h)) c.push_at-in-Not.ensures.pushes;
    }

pub returns-in_ok-push_at-in-Some : goal.returns-in_ok-push_at-in-Some
returns-in_ok-push_at-in-Some t c =
    let o = c.args.scene.now.objects.now in
    let known = c.args.scene.now.known.now in
    let this = c.args.scene.now.this in
    let vars = c.args.scene.now.vars.now in
    let at = c.args.e.now.at in
    let l = tree_of c.deref-in-Some.result.now in
    let r = tree_of c.deref-in-Some-2.result.now in
    let is = ap (λ n. node_tree n at) c.in-Pair.is ∙ ap (λ x. tree.Pair at c.in-Pair.op (tree_of x) (tree_of c.in-Pair.right.value)) (sym c.deref-in-Some.ensures) ∙ ap (λ x. tree.Pair at c.in-Pair.op l (tree_of x)) (sym c.deref-in-Some-2.ensures) in
    let old = c.args.maker.now in
    let mid = c.push_at-in-Some.new.maker in
    let new = c.push_at-in-Some-2.new.maker in
    record {
      pushes = on_ok_weaker c.push_at-in-Some-2.result
          (λ h. pushes_at o known this vars old new (tree_of c.args.e.now) (tree.Pair at c.in-Pair.op l r) c.args.want c.args.some.now c.push_at-in-Some-2.new.some is
          (pushes_pair o known this vars old mid new at c.in-Pair.op l r c.args.want (c.in-Some.p, c.in-Some.q) c.args.some.now c.push_at-in-Some.new.some c.push_at-in-Some-2.new.some c.in-Some.ensures.either c.in_ok-push_at-in-Some.ensures.pushes h)) c.push_at-in-Some-2.ensures.pushes;
    }
