use Rattle.conf_types.specs.TreeOf.{tree_of}
use Rattle.conf_eval.specs.Evaluating.{height}
use Rattle.ground_model.proofs.comparing.+compares.Given as goal

abbrev pub decreases-compares : goal.decreases-compares
decreases-compares l = height (tree_of l.e.now)
