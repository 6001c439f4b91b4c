use Rattle.std.proofs.Common.{◌<◌, length, rules}
use Rattle.conf_types.proofs.ProgramLaws.{in_items}
use Rattle.conf_types.proofs.checker.check_items.Goals as goal

pub returns-in-Err-clause-fault : goal.returns-in-Err-clause-fault
returns-in-Err-clause-fault c =
    let within : c.loop-item.item-index < length c.args.items.now = search rules in
    in_items c.args.table.now c.in-Err.fault c.args.items.now c.loop-item.item-index c.loop-item.class c.item-item.result within c.item-item.is c.loop-item.invariant.right_constraints c.loop-item.invariant.right_goals c.in-Err.ensures.fault
