use Rattle.conf_types.specs.TreeOf.{tree_of}
use Rattle.conf_eval.specs.Evaluating.{height}
use Rattle.ground_expr.proofs.pushes.+push_at.Given as goal

abbrev pub decreases-push_at : goal.decreases-push_at
decreases-push_at l = height (tree_of l.e.now)
