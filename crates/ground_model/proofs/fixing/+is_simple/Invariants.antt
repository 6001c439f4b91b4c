use Rattle.conf_types.specs.TreeOf.{tree_of}
use Rattle.conf_eval.specs.Evaluating.{height}
use Rattle.ground_model.proofs.fixing.+is_simple.Given as goal

abbrev pub decreases-is_simple : goal.decreases-is_simple
decreases-is_simple l = height (tree_of l.e.now)
