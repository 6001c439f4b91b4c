use Rattle.conf_types.specs.TreeOf.{tree_of}
use Rattle.expr_forms.proofs.Configured.{cells_still}
use Rattle.ground_expr.proofs.Stating.{says_either}
use Rattle.ground_expr.proofs.statements.require_pair.Goals as goal

pub push_at-requires-2-clause-cells : goal.push_at-requires-2-clause-cells
push_at-requires-2-clause-cells c =
    cells_still c.args.scene.now.objects.now c.args.maker.now c.push_at.new.maker c.in_ok-push_at.ensures.pushes.adds.grows c.requires.cells

pub returns : goal.returns
returns c =
    let scene = c.args.scene.now in
    record {
      says = says_either scene.objects.now scene.known.now scene.this scene.vars.now c.args.maker.now c.push_at.new.maker c.push_at-2.new.maker c.require.new.m 0 c.args.op (tree_of c.args.left.now) (tree_of c.args.right.now) c.args.want (c.in-Some.p, c.in-Some.q)
          c.new-some.result c.push_at.new.some c.push_at-2.new.some c.new-some.ensures c.in-Some.ensures.either c.in_ok-push_at.ensures.pushes c.in_ok-push_at-2.ensures.pushes c.in_ok-require.ensures.says;
    }
