use Rattle.class_table.specs.Faults.{pointed}
use Rattle.class_table.proofs.BuildLaws.{numbered, decls_few, classes_few, derivation_marked, derivation_stand, made_parents, made_ranks, made_size, repeated_stand, containment_marked, containment_stand, is_table, no_fault}
use Rattle.class_table.proofs.SoundLaws.{nesting}
use Rattle.class_table.proofs.build.check_classes.Goals as goal

pub check_derivation-requires-clause-numbered : goal.check_derivation-requires-clause-numbered
check_derivation-requires-clause-numbered c = numbered c.args.items.now c.args.names.now.entries c.args.decls.now c.requires.names c.requires.decls

pub check_derivation-requires-clause-few : goal.check_derivation-requires-clause-few
check_derivation-requires-clause-few c = decls_few c.args.items.now c.args.decls.now c.requires.decls c.requires.small

pub check_derivation-requires-clause-marked : goal.check_derivation-requires-clause-marked
check_derivation-requires-clause-marked c = derivation_marked c.args.items.now c.args.names.now.entries (pointed c.args.decls.now) c.requires.names c.requires.decls

pub returns-in-Err-clause-fault : goal.returns-in-Err-clause-fault
returns-in-Err-clause-fault c = derivation_stand c.args.items.now c.args.names.now.entries (pointed c.args.decls.now) c.in-Err.fault c.requires.names c.requires.decls c.in-Err.ensures.cycle

pub count_attributes-requires-clause-parents : goal.count_attributes-requires-clause-parents
count_attributes-requires-clause-parents c = made_parents c.args.items.now c.args.names.now.entries (pointed c.args.decls.now) c.args.made.now c.in-Ok.order.items c.requires.names c.requires.decls c.requires.made c.in-Ok.ensures.ordered

pub count_attributes-requires-clause-ranks : goal.count_attributes-requires-clause-ranks
count_attributes-requires-clause-ranks c = made_ranks c.args.items.now c.args.names.now.entries (pointed c.args.decls.now) c.args.made.now c.in-Ok.order.items c.requires.names c.requires.decls c.requires.made c.in-Ok.ensures.ordered

pub count_attributes-requires-clause-size : goal.count_attributes-requires-clause-size
count_attributes-requires-clause-size c = made_size c.args.items.now c.args.names.now.entries (pointed c.args.decls.now) c.args.made.now c.in-Ok.order.items c.requires.names c.requires.decls c.requires.made c.in-Ok.ensures.ordered

pub count_attributes-requires-clause-classes : goal.count_attributes-requires-clause-classes
count_attributes-requires-clause-classes c = classes_few c.args.items.now (pointed c.args.decls.now) c.requires.decls c.requires.small

pub returns-in-Err-count_attributes-clause-fault : goal.returns-in-Err-count_attributes-clause-fault
returns-in-Err-count_attributes-clause-fault c = repeated_stand c.args.items.now c.args.names.now.entries (pointed c.args.decls.now) c.args.made.now c.in-Ok.order.items c.requires.names c.requires.decls c.requires.made c.in-Ok.ensures.ordered c.in-Err-count_attributes.fault c.in-Err-count_attributes.ensures.fault

pub check_containment-requires-clause-numbered : goal.check_containment-requires-clause-numbered
check_containment-requires-clause-numbered c = numbered c.args.items.now c.args.names.now.entries c.args.decls.now c.requires.names c.requires.decls

pub check_containment-requires-clause-few : goal.check_containment-requires-clause-few
check_containment-requires-clause-few c = decls_few c.args.items.now c.args.decls.now c.requires.decls c.requires.small

pub check_containment-requires-clause-marked : goal.check_containment-requires-clause-marked
check_containment-requires-clause-marked c = containment_marked c.args.items.now c.args.names.now.entries (pointed c.args.decls.now) c.args.made.now c.in-Ok.order.items c.requires.names c.requires.decls c.requires.made c.in-Ok.ensures.ordered

pub returns-in-Err-check_containment-clause-fault : goal.returns-in-Err-check_containment-clause-fault
returns-in-Err-check_containment-clause-fault c = containment_stand c.args.items.now c.args.names.now.entries (pointed c.args.decls.now) c.args.made.now c.in-Ok.order.items c.requires.names c.requires.decls c.requires.made c.in-Ok.ensures.ordered c.in-Err-check_containment.fault c.in-Err-check_containment.ensures.cycle

pub returns-clause-table : goal.returns-clause-table
returns-clause-table c = is_table c.args.items.now c.args.names.now.entries (pointed c.args.decls.now) c.args.made.now c.in-Ok.order.items c.requires.names c.requires.decls c.requires.made c.in-Ok.ensures.ordered c.in-Ok-count_attributes.counts.items c.in-Ok-count_attributes.ensures.size c.in-Ok-count_attributes.ensures.counts c.in-Ok-count_attributes.ensures.differ

pub returns-clause-right : goal.returns-clause-right
returns-clause-right c = no_fault c.args.items.now c.args.names.now.entries (pointed c.args.decls.now) c.args.made.now c.in-Ok.order.items c.requires.names c.requires.decls c.requires.made c.in-Ok.ensures.ordered c.in-Ok-count_attributes.ensures.differ c.in_default.ensures.ordered

pub returns-clause-nesting : goal.returns-clause-nesting
returns-clause-nesting c = nesting c.args.items.now c.args.names.now.entries (pointed c.args.decls.now) c.args.made.now c.in-Ok.order.items c.requires.names c.requires.decls c.requires.made c.in-Ok.ensures.ordered c.in_default.ensures.ordered
