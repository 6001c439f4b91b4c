use Rattle.ground_expr.proofs.Pushing.{pushes_form}
use Rattle.conf_types.specs.TreeOf.{tree_of}
use Rattle.ground_expr.proofs.pushes.push_form.Goals as goal

pub returns : goal.returns
returns c =
    let scene = c.args.scene.now in
    record {
      pushes = pushes_form scene.objects.now scene.known.now scene.this scene.vars.now c.args.maker.now c.form_at.new.maker (tree_of c.args.e.now) c.in_ok-f.f c.truth_of.result c.in_ok-t.t c.args.want c.args.some.now c.push.new.self
          c.in_ok-f.ensures.made c.truth_of.ensures.truth c.in_ok-t.ensures.variable c.in_ok-t.ensures.value c.requires.exist c.in_ok-push.ensures.value c.in_ok-push.ensures.variables;
    }
