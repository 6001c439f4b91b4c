use Rattle.std.proofs.Common.{◌≡◌, ◌++◌, true, map, drop}
use Rattle.class_table.specs.Tables.{all_differ}
use Rattle.class_table.specs.Outline.{variable_name}
use Rattle.class_table.proofs.paths.add_names.Given as goal

-- with what is left the names are those of all variables, and those that are left differ from them
abbrev pub invariant-loop-variable : goal.invariant-loop-variable
invariant-loop-variable l =
    let left = map variable_name (drop l.variable-index l.variables) in
    record {
      names : l.names ++ left ≡ l.fn.names ++ map variable_name l.variables;
      differ : all_differ left l.names ≡ true;
    }
