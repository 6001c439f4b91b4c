use Rattle.std.proofs.Common.{◌≡◌, ◌++◌, drop}
use Rattle.class_table.specs.Faults.{pointed}
use Rattle.class_table.specs.Graphs.{derivation}
use Rattle.class_table.proofs.graphs.derivation.Given as goal

-- with what is left the edges are those of all classes
abbrev pub invariant-loop-decl : goal.invariant-loop-decl
invariant-loop-decl l = l.graph.items ++ derivation l.names.entries (pointed (drop l.decl-index l.decls)) ≡ derivation l.names.entries (pointed l.decls)
