use Rattle.conf_types.specs.TreeOf.{tree_of}
use Rattle.ground_expr.proofs.Stating.{says_form}
use Rattle.ground_expr.proofs.statements.require_form.Goals as goal

pub returns : goal.returns
returns c =
    let scene = c.args.scene.now in
    record {
      says = says_form scene.objects.now scene.known.now scene.this scene.vars.now c.args.maker.now c.form_at.new.maker c.state_form.new.maker (tree_of c.args.e.now) c.in_ok-f.f c.args.want c.in_ok-f.ensures.made c.in_ok-state_form.ensures.says;
    }
