use Rattle.class_table.proofs.BuildLaws.{names_stand}
use Rattle.class_table.proofs.class_table.ClassTable.of_items.Goals as goal

pub returns-in-Err-clause-fault : goal.returns-in-Err-clause-fault
returns-in-Err-clause-fault c = names_stand c.args.items.now c.in-Err.fault c.in-Err.ensures.fault
