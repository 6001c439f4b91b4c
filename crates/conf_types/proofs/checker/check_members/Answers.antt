use Rattle.std.proofs.Common.{◌<◌, Some, length, rules, arith, ◌≡◌}
use Rattle.std.proofs.lemmas.Grind.{common_steps}
use Rattle.conf_types.specs.Programs.{member_exprs}
use Rattle.conf_types.proofs.ProgramLaws.{in_members}
use Rattle.conf_types.proofs.checker.check_members.Goals as goal

pub returns-in-Err-clause-fault : goal.returns-in-Err-clause-fault
returns-in-Err-clause-fault c =
    let within : c.loop-member.member-index < length c.args.members.now = search rules in
    let same : member_exprs c.member-item.result ≡ c.items.result.now = search rules in
    in_members c.args.table.now c.in-Err.fault (Some c.args.class) c.args.members.now c.loop-member.member-index c.member-item.result c.items.result.now within c.member-item.is same c.loop-member.invariant.right c.in-Err.ensures.fault

pub loop-member-preserved : goal.loop-member-preserved
loop-member-preserved c =
    record {
      constraints = grind (arith, common_steps);
      right = grind (arith, common_steps);
      typed = λ a. c.in_default-check_list.ensures.typed (c.loop-member.invariant.typed a);
      depth = grind (arith, common_steps);
    }
