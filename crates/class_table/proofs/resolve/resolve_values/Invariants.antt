use Rattle.std.proofs.Common.{◌≡◌, ◌++◌, [], map, drop}
use Rattle.class_table.specs.Outline.{value_name}
use Rattle.class_table.specs.Faults.{repeated}
use Rattle.class_table.proofs.resolve.resolve_values.Given as goal

-- with what is left the values are those of all names
abbrev pub invariant-loop-ident : goal.invariant-loop-ident
invariant-loop-ident l =
    let left = drop l.ident-index l.idents in
    record {
      values : l.values ++ map value_name left ≡ map value_name l.idents;
      right : repeated left l.values ≡ repeated l.idents [];
    }
