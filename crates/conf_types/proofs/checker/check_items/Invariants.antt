use Rattle.std.proofs.Common.{◌≡◌, ◌≤◌, ◌+◌, ◌++◌, map, drop, length}
use Rattle.std.specs.List.{flat_map}
use Rattle.model_limits.specs.Limits.{most_nesting}
use Rattle.class_table.specs.Names.{classes}
use Rattle.conf_types.specs.Programs.{resolved_constraint, resolved_goal, constraint_faults, goal_faults, constraints, constraints_from, goals}
use Rattle.conf_types.specs.Typing.{IsTypedModel}
use Rattle.conf_types.proofs.checker.check_items.Given as goal
use Rattle.conf_syntax.specs.Trees.{deepest, item_depth}

-- with what is left the constraints, objectives and faults are those of all items; those so far are typed
abbrev pub invariant-loop-item : goal.invariant-loop-item
invariant-loop-item l =
    let left = drop l.item-index l.items in
    record {
      constraints_are : l.found.constraints.items ++ map (resolved_constraint l.table) (constraints_from left l.class) ≡ map (resolved_constraint l.table) (constraints l.items);
      goals_are : l.found.goals.items ++ map (resolved_goal l.table) (goals left) ≡ map (resolved_goal l.table) (goals l.items);
      right_constraints : flat_map (constraint_faults l.table) (constraints_from left l.class) ≡ flat_map (constraint_faults l.table) (constraints l.items);
      right_goals : flat_map (goal_faults l.table) (goals left) ≡ flat_map (goal_faults l.table) (goals l.items);
      classes_are : l.class + length (classes left) ≡ length (classes l.items);
      few : l.class ≤ l.item-index;
      typed : IsTypedModel l.table l.found.constraints.items l.found.goals.items;
      depth : deepest item_depth left ≤ most_nesting;
    }
