use Rattle.std.proofs.Common.{◌≡◌, ◌++◌, map, drop}
use Rattle.std.specs.List.{flat_map}
use Rattle.class_table.specs.Names.{member_variable}
use Rattle.class_table.specs.Faults.{repeated, variable_ident}
use Rattle.class_table.specs.Scopes.{names_of}
use Rattle.class_table.proofs.attributes.add_names.Given as goal

-- with what is left the names are those of all members
abbrev pub invariant-loop-member : goal.invariant-loop-member
invariant-loop-member l =
    let left = drop l.member-index l.members in
    record {
      names : l.names ++ names_of (flat_map member_variable left) ≡ l.fn.names ++ names_of (flat_map member_variable l.members);
      differ : repeated (map variable_ident (flat_map member_variable left)) l.names ≡ repeated (map variable_ident (flat_map member_variable l.members)) l.fn.names;
    }
