use Rattle.std.proofs.Common.{◌≡◌, ◌++◌, drop}
use Rattle.class_table.specs.Names.{classes}
use Rattle.class_table.specs.Faults.{pointed}
use Rattle.class_table.proofs.parts.class_decls.Given as goal

abbrev pub invariant-loop-item : goal.invariant-loop-item
invariant-loop-item l = pointed l.decls.items ++ classes (drop l.item-index l.items) ≡ classes l.items
