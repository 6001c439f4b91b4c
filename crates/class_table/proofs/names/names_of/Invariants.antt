use Rattle.std.proofs.Common.{◌≡◌, ◌≤◌, ◌++◌, [], drop}
use Rattle.std.specs.Map.{keys_of}
use Rattle.class_table.specs.Names.{space, space_from, declared}
use Rattle.class_table.specs.Faults.{repeated}
use Rattle.class_table.proofs.names.names_of.Given as goal

-- with what is left the names are those of all items
abbrev pub invariant-loop-item : goal.invariant-loop-item
invariant-loop-item l =
    let left = drop l.item-index l.items in
    record {
      entries : l.names.entries ++ space_from left l.counts.classes l.counts.enumerations l.counts.variables ≡ space l.items;
      new : repeated (declared left) (keys_of l.names.entries) ≡ repeated (declared l.items) [];
      classes : l.counts.classes ≤ l.item-index;
      enumerations : l.counts.enumerations ≤ l.item-index;
      variables : l.counts.variables ≤ l.item-index;
    }
