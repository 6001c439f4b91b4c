use Rattle.conf_types.specs.TreeOf.{tree_of}
use Rattle.conf_eval.specs.Evaluating.{height}
use Rattle.ground_model.proofs.fixing.+fixes.Given as goal

abbrev pub decreases-fixes : goal.decreases-fixes
decreases-fixes l = height (tree_of l.e.now)
