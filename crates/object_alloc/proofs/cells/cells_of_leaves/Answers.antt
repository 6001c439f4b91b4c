use Rattle.std.proofs.Common.{None, pos}
use Rattle.std.proofs.lemmas.List.Elements.{Contains-get_or}
use Rattle.class_table.specs.declared.table.Resolved.TheVariants.{Span}
use Rattle.object_alloc.specs.declared.object.Leaf.{Leaf}
use Rattle.object_alloc.proofs.cells.cells_of_leaves.Goals as goal

pub push_leaf-requires-clause-shape : goal.push_leaf-requires-clause-shape
push_leaf-requires-clause-shape c =
    let d : Leaf = record { owner = None; attribute = 0; shape = Span (pos 0) (pos 0) } in
    c.requires.shapes _ (Contains-get_or c.args.leaves.now c.loop-leaf.leaf-index d c.loop-leaf-test.true)
