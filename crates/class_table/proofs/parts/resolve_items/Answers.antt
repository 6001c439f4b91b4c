use Rattle.std.proofs.Common.{◌<◌, ◌∙◌, rules, length}
use Rattle.class_table.specs.Names.{item_class, item_enumeration, item_root}
use Rattle.class_table.specs.Outline.{variable_of, class_of, enumeration_of}
use Rattle.class_table.specs.Faults.{item_faults, pointed}
use Rattle.class_table.proofs.FaultLaws.{fault_of_item}
use Rattle.class_table.proofs.ItemLaws.{flat_added, flat_same}
use Rattle.class_table.proofs.parts.resolve_items.Goals as goal

pub loop-item-preserved : goal.loop-item-preserved
loop-item-preserved c =
    let names = c.args.names.now.entries in
    let items = c.args.items.now in
    let k = c.loop-item.item-index in
    let x = c.item-item.result in
    let old = c.loop-item.parts in
    let new = c.resolve_item.new.parts in
    let done = c.loop-item.invariant in
    let within : k < length items = search rules in
    record {
      classes = flat_added (class_of names) item_class items k x old.classes.items new.classes.items within c.item-item.is c.in_default.ensures.classes ∙ done.classes;
      enumerations = flat_added enumeration_of item_enumeration items k x old.enumerations.items new.enumerations.items within c.item-item.is c.in_default.ensures.enumerations ∙ done.enumerations;
      roots = flat_added (variable_of names) item_root items k x old.roots.items new.roots.items within c.item-item.is c.in_default.ensures.roots ∙ done.roots;
      right = flat_same (item_faults names (pointed c.args.decls.now)) items k x within c.item-item.is c.in_default.ensures.right ∙ done.right;
    }

pub returns-in-Err-clause-fault : goal.returns-in-Err-clause-fault
returns-in-Err-clause-fault c =
    let within : c.loop-item.item-index < length c.args.items.now = search rules in
    fault_of_item (item_faults c.args.names.now.entries (pointed c.args.decls.now)) c.args.items.now c.loop-item.item-index c.item-item.result c.in-Err.fault within c.item-item.is c.in-Err.ensures.fault
