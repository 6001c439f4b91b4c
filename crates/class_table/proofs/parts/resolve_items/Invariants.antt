use Rattle.std.proofs.Common.{◌≡◌, ◌++◌, map, drop}
use Rattle.std.specs.List.{flat_map}
use Rattle.class_table.specs.Names.{classes, enumerations, roots}
use Rattle.class_table.specs.Outline.{variable_of, class_of, enumeration_of}
use Rattle.class_table.specs.Faults.{item_faults, pointed}
use Rattle.class_table.proofs.parts.resolve_items.Given as goal

-- with what is left the parts and the faults are those of all items
abbrev pub invariant-loop-item : goal.invariant-loop-item
invariant-loop-item l =
    let left = drop l.item-index l.items in
    record {
      classes : l.parts.classes.items ++ map (class_of l.names.entries) (classes left) ≡ map (class_of l.names.entries) (classes l.items);
      enumerations : l.parts.enumerations.items ++ map enumeration_of (enumerations left) ≡ map enumeration_of (enumerations l.items);
      roots : l.parts.roots.items ++ map (variable_of l.names.entries) (roots left) ≡ map (variable_of l.names.entries) (roots l.items);
      right : flat_map (item_faults l.names.entries (pointed l.decls)) left ≡ flat_map (item_faults l.names.entries (pointed l.decls)) l.items;
    }
