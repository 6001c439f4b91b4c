use Rattle.std.proofs.Common.{◌≡◌, ◌≤◌, ◌+◌, ◌*◌, max, drop, length}
use Rattle.model_limits.specs.Limits.{most_nesting}
use Rattle.conf_syntax.specs.Trees.{depth, quant_depth, deepest, expr_depth}
use Rattle.conf_types.specs.Checked.{scope_of, readings, trees_onto, optional_depth}
use Rattle.conf_types.specs.Readings.{bodies_faults, bodies_hold, bodies_tree}
use Rattle.conf_types.proofs.expressions.+check.Given as goal

abbrev pub decreases-check_expr : goal.decreases-check_expr
decreases-check_expr l = 8 * depth l.expr.now.node

abbrev pub decreases-check_needed : goal.decreases-check_needed
decreases-check_needed l = 8 * depth l.expr.now.node + 1

abbrev pub decreases-check_over : goal.decreases-check_over
decreases-check_over l = 8 * depth l.expr.now.node + 2

abbrev pub decreases-check_right : goal.decreases-check_right
decreases-check_right l = 8 * depth l.expr.now.node + 3

abbrev pub decreases-check_paren : goal.decreases-check_paren
decreases-check_paren l = 8 * depth l.inner.now.node + 4

abbrev pub decreases-check_minus : goal.decreases-check_minus
decreases-check_minus l = 8 * depth l.inner.now.node + 4

abbrev pub decreases-check_not : goal.decreases-check_not
decreases-check_not l = 8 * depth l.inner.now.node + 4

abbrev pub decreases-check_attribute : goal.decreases-check_attribute
decreases-check_attribute l = 8 * depth l.inner.now.node + 4

abbrev pub decreases-check_dot : goal.decreases-check_dot
decreases-check_dot l = 8 * depth l.inner.now.node + 5

abbrev pub decreases-check_pair : goal.decreases-check_pair
decreases-check_pair l = 8 * max (depth l.sides.left.now.node) (depth l.sides.right.now.node) + 4

abbrev pub decreases-check_filter : goal.decreases-check_filter
decreases-check_filter l = 8 * optional_depth l.filter.now + 2

abbrev pub decreases-check_bodies : goal.decreases-check_bodies
decreases-check_bodies l = 8 * deepest expr_depth l.body.now + 2

abbrev pub decreases-check_parts : goal.decreases-check_parts
decreases-check_parts l = 8 * quant_depth l.quant.now + 5

abbrev pub decreases-check_quant : goal.decreases-check_quant
decreases-check_quant l = 8 * quant_depth l.quant.now + 6

-- with what is left it is that of all bodies
abbrev pub invariant-check_bodies-loop-k : goal.invariant-check_bodies-loop-k
invariant-check_bodies-loop-k l =
    let s = scope_of l.scope in
    let left = readings l.table s (drop l.k l.body) in
    let all = readings l.table s l.body in
    record {
      right : bodies_faults l.kind left l.k ≡ bodies_faults l.kind all 0;
      hold : bodies_hold l.kind left l.k ≡ bodies_hold l.kind all 0;
      trees : trees_onto l.found.items (bodies_tree left) ≡ bodies_tree all;
      room : length l.scope.locals.items + deepest expr_depth (drop l.k l.body) ≤ most_nesting;
    }
