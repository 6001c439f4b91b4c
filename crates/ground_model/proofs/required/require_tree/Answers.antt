use Rattle.conf_types.specs.TreeOf.{tree_of}
use Rattle.ground_model.proofs.FormSteps.{tree_required}
use Rattle.ground_model.proofs.required.require_tree.Goals as goal

pub returns : goal.returns
returns c = record {
  says = tree_required c.args.objects.now c.args.known.now (tree_of c.args.e.now) c.args.this c.args.maker.now c.require_constraint.new.maker c.in_ok-require_constraint.ensures.says;
  whole = c.in_ok-require_constraint.ensures.whole;
}
