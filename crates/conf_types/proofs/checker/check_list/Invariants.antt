use Rattle.std.proofs.Common.{◌≡◌, ◌≤◌, ◌++◌, All, map, drop}
use Rattle.std.specs.List.{flat_map}
use Rattle.model_limits.specs.Limits.{most_nesting}
use Rattle.conf_types.specs.Programs.{resolved_constraint, constraint_faults, stated}
use Rattle.conf_types.specs.Typing.{IsTypedConstraint}
use Rattle.conf_types.proofs.checker.check_list.Given as goal
use Rattle.conf_syntax.specs.Trees.{deepest, expr_depth}

-- with what is left the constraints and faults are those of all; constraints that are typed stay so
abbrev pub invariant-loop-expr : goal.invariant-loop-expr
invariant-loop-expr l =
    let left = map (stated l.class) (drop l.expr-index l.list) in
    let all = map (stated l.class) l.list in
    record {
      constraints : l.found.items ++ map (resolved_constraint l.table) left ≡ l.fn.found.items ++ map (resolved_constraint l.table) all;
      right : flat_map (constraint_faults l.table) left ≡ flat_map (constraint_faults l.table) all;
      typed : All (IsTypedConstraint l.table) l.fn.found.items → All (IsTypedConstraint l.table) l.found.items;
      depth : deepest expr_depth (drop l.expr-index l.list) ≤ most_nesting;
    }
