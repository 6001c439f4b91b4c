use Rattle.std.proofs.Common.{◌<◌, ◌∙◌, rules, length}
use Rattle.class_table.specs.Names.{member_variable}
use Rattle.class_table.specs.Outline.{variable_of}
use Rattle.class_table.specs.Faults.{member_faults, pointed}
use Rattle.class_table.proofs.FaultLaws.{fault_of_item}
use Rattle.class_table.proofs.ItemLaws.{flat_added, flat_same}
use Rattle.class_table.proofs.resolve.resolve_members.Goals as goal

pub loop-member-preserved : goal.loop-member-preserved
loop-member-preserved c =
    let names = c.args.names.now.entries in
    let members = c.args.members.now in
    let k = c.loop-member.member-index in
    let within : k < length members = search rules in
    record {
      found = flat_added (variable_of names) member_variable members k c.member-item.result c.loop-member.found.items c.add_member.new.found.items within c.member-item.is c.in_default.ensures.added ∙ c.loop-member.invariant.found;
      right = flat_same (member_faults names (pointed c.args.decls.now)) members k c.member-item.result within c.member-item.is c.in_default.ensures.right ∙ c.loop-member.invariant.right;
    }

pub returns-in-Err-clause-fault : goal.returns-in-Err-clause-fault
returns-in-Err-clause-fault c =
    let within : c.loop-member.member-index < length c.args.members.now = search rules in
    fault_of_item (member_faults c.args.names.now.entries (pointed c.args.decls.now)) c.args.members.now c.loop-member.member-index c.member-item.result c.in-Err.fault within c.member-item.is c.in-Err.ensures.fault
