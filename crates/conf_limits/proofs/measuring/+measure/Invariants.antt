use Rattle.std.proofs.Common.{◌+◌, ◌*◌, ◌-◌, drop}
use Rattle.conf_types.specs.TreeOf.{tree_of, optional_tree, trees_of, quant_tree}
use Rattle.conf_limits.specs.Counting.{IsMeasuring}
use Rattle.conf_limits.specs.Limits.{size, filter_size, bodies_size}
use Rattle.conf_limits.proofs.measuring.+measure.Given as goal

abbrev pub decreases-measured : goal.decreases-measured
decreases-measured l = 4 * size (tree_of l.expr.now)

abbrev pub decreases-measure_quant : goal.decreases-measure_quant
decreases-measure_quant l = 4 * size (quant_tree l.quant.now 0) - 1

abbrev pub decreases-measure_filter : goal.decreases-measure_filter
decreases-measure_filter l = 4 * filter_size (optional_tree l.expr.now) + 1

abbrev pub decreases-measure_bodies : goal.decreases-measure_bodies
decreases-measure_bodies l = 4 * bodies_size (trees_of l.body.now) + 1

-- with what is left it is that of all bodies
abbrev pub invariant-measure_bodies-loop-k : goal.invariant-measure_bodies-loop-k
invariant-measure_bodies-loop-k l = IsMeasuring l.all l.wanted l.found l.k (trees_of (drop l.k l.body)) (trees_of l.body)
