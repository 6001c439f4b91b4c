use Rattle.std.proofs.Common.{◌<◌, ◌∙◌, rules, length}
use Rattle.class_table.specs.Graphs.{member_edges}
use Rattle.class_table.proofs.ItemLaws.{flat_joined}
use Rattle.class_table.proofs.graphs.edges_of_members.Goals as goal

pub loop-member-preserved : goal.loop-member-preserved
loop-member-preserved c =
    let members = c.args.members.now in
    let k = c.loop-member.member-index in
    let within : k < length members = search rules in
    flat_joined (member_edges c.args.names.now.entries) members k c.member-item.result c.loop-member.edges.items c.add_member.new.edges.items within c.member-item.is c.in_ok-add_member.ensures ∙ c.loop-member.invariant
