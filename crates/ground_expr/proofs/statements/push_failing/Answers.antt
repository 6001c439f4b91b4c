use Rattle.std.proofs.Common.{[], arith}
use Rattle.conf_eval.proofs.EvalLaws.{nth_evaluable}
use Rattle.expr_forms.specs.Standing.{bare_setting}
use Rattle.expr_forms.proofs.Configured.{cells_still}
use Rattle.ground_expr.proofs.Pushing.{pushes_none, pushes_more, pushes_all}
use Rattle.ground_expr.proofs.statements.push_failing.Goals as goal

pub loop-e-init : goal.loop-e-init
loop-e-init c =
    let scene = c.args.scene.now in
    record { pushes = pushes_none scene.objects.now scene.known.now scene.this scene.vars.now c.args.maker.now c.args.body.now c.args.some.now c.requires.exist }

pub push_at-requires-clause-standing : goal.push_at-requires-clause-standing
push_at-requires-clause-standing c =
    let scene = c.args.scene.now in
    nth_evaluable scene.objects.now [] (bare_setting scene.objects.now scene.this scene.vars.now) c.args.body.now c.loop-e.e-index c.e-item.result c.loop-e-test.true c.e-item.is c.requires.bodies

pub push_at-requires-clause-cells : goal.push_at-requires-clause-cells
push_at-requires-clause-cells c =
    cells_still c.args.scene.now.objects.now c.args.maker.now c.loop-e.maker c.loop-e.invariant.pushes.adds.grows c.requires.cells

pub loop-e-preserved : goal.loop-e-preserved
loop-e-preserved c =
    let scene = c.args.scene.now in
    record {
      pushes = pushes_more scene.objects.now scene.known.now scene.this scene.vars.now c.args.maker.now c.loop-e.maker c.push_at.new.maker c.args.body.now c.loop-e.e-index c.e-item.result c.args.some.now c.loop-e.some c.push_at.new.some
          c.loop-e-test.true c.e-item.is c.loop-e.invariant.pushes c.in_ok-push_at.ensures.pushes;
    }

pub returns : goal.returns
returns c =
    let scene = c.args.scene.now in
    record {
      pushes = pushes_all scene.objects.now scene.known.now scene.this scene.vars.now c.args.maker.now c.loop-e.maker c.args.body.now c.loop-e.e-index c.args.some.now c.loop-e.some (omega (arith, c.loop-e-test.false)) c.loop-e.invariant.pushes;
    }
