use Rattle.expr_forms.proofs.Configured.{cells_still}
use Rattle.conf_types.specs.TreeOf.{optional_tree}
use Rattle.ground_expr.proofs.Stating.{some_failing}
use Rattle.ground_expr.proofs.statements.require_failing.Goals as goal

pub push_failing-requires-clause-cells : goal.push_failing-requires-clause-cells
push_failing-requires-clause-cells c =
    cells_still c.args.scene.now.objects.now c.args.maker.now c.left_out.new.maker c.in_ok-parts.ensures.adds.grows c.requires.cells

pub returns : goal.returns
returns c =
    let scene = c.args.scene.now in
    record {
      says = some_failing scene.objects.now scene.known.now scene.this scene.vars.now c.args.is.now (optional_tree c.args.filter.now) c.args.maker.now c.left_out.new.maker c.push_failing.new.maker c.require.new.m c.args.body.now c.in_ok-parts.parts c.push_failing.new.some
          c.in_ok-parts.ensures.value c.in_ok-parts.ensures.adds c.in_ok-push_failing.ensures.pushes c.in_ok-require.ensures.says;
    }
