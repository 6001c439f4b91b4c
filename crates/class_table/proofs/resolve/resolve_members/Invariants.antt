use Rattle.std.proofs.Common.{◌≡◌, ◌++◌, map, drop}
use Rattle.std.specs.List.{flat_map}
use Rattle.class_table.specs.Names.{member_variable}
use Rattle.class_table.specs.Outline.{variable_of}
use Rattle.class_table.specs.Faults.{member_faults, pointed}
use Rattle.class_table.proofs.resolve.resolve_members.Given as goal

-- with what is left the attributes and faults are those of all members
abbrev pub invariant-loop-member : goal.invariant-loop-member
invariant-loop-member l =
    let left = drop l.member-index l.members in
    record {
      found : l.found.items ++ map (variable_of l.names.entries) (flat_map member_variable left) ≡ map (variable_of l.names.entries) (flat_map member_variable l.members);
      right : flat_map (member_faults l.names.entries (pointed l.decls)) left ≡ flat_map (member_faults l.names.entries (pointed l.decls)) l.members;
    }
