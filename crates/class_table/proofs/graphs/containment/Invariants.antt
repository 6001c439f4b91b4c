use Rattle.std.proofs.Common.{◌≡◌, ◌++◌, drop}
use Rattle.class_table.specs.Faults.{pointed}
use Rattle.class_table.specs.Graphs.{containment}
use Rattle.class_table.proofs.graphs.containment.Given as goal

-- with what is left the edges are those of all classes
abbrev pub invariant-loop-decl : goal.invariant-loop-decl
invariant-loop-decl l = l.graph.items ++ containment l.names.entries (pointed (drop l.decl-index l.decls)) ≡ containment l.names.entries (pointed l.decls)
