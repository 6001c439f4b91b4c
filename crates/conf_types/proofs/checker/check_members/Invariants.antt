use Rattle.std.proofs.Common.{◌≡◌, ◌≤◌, ◌++◌, Some, All, map, drop}
use Rattle.std.specs.List.{flat_map}
use Rattle.model_limits.specs.Limits.{most_nesting}
use Rattle.conf_types.specs.Programs.{resolved_constraint, constraint_faults, stated, member_exprs}
use Rattle.conf_types.specs.Typing.{IsTypedConstraint}
use Rattle.conf_types.proofs.checker.check_members.Given as goal
use Rattle.conf_syntax.specs.Trees.{deepest, member_depth}

-- with what is left the constraints and faults are those of all members; constraints that are typed stay so
abbrev pub invariant-loop-member : goal.invariant-loop-member
invariant-loop-member l =
    let left = map (stated (Some l.class)) (flat_map member_exprs (drop l.member-index l.members)) in
    let all = map (stated (Some l.class)) (flat_map member_exprs l.members) in
    record {
      constraints : l.found.items ++ map (resolved_constraint l.table) left ≡ l.fn.found.items ++ map (resolved_constraint l.table) all;
      right : flat_map (constraint_faults l.table) left ≡ flat_map (constraint_faults l.table) all;
      typed : All (IsTypedConstraint l.table) l.fn.found.items → All (IsTypedConstraint l.table) l.found.items;
      depth : deepest member_depth (drop l.member-index l.members) ≤ most_nesting;
    }
