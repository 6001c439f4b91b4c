use Rattle.class_table.specs.Paths.{ArePaths}
use Rattle.class_table.proofs.paths.settle_listed.Given as goal

abbrev pub invariant-loop-class : goal.invariant-loop-class
invariant-loop-class l = ArePaths l.tree.classes.now l.tree.order.now l.paths.all.items l.paths.on.items
