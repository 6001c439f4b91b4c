use Rattle.std.proofs.Common.{◌≡◌, ◌++◌, drop}
use Rattle.std.specs.List.{flat_map}
use Rattle.class_table.specs.Graphs.{member_edges}
use Rattle.class_table.proofs.graphs.edges_of_members.Given as goal

abbrev pub invariant-loop-member : goal.invariant-loop-member
invariant-loop-member l = l.edges.items ++ flat_map (member_edges l.names.entries) (drop l.member-index l.members) ≡ flat_map (member_edges l.names.entries) l.members
