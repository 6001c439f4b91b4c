use Rattle.std.proofs.Common.{arith, refl, ◌+◌}
use Rattle.object_alloc.specs.declared.layout.Layout.{Layout}
use Rattle.object_alloc.proofs.LayingLaws.{leaf_laid}
use Rattle.object_alloc.proofs.layout.lay_leaf.Goals as goal

pub returns-clause-laid : goal.returns-clause-laid
returns-clause-laid c =
    let after : Layout = record { objects = c.args.layout.now.objects; leaves = c.push.new.self; cells = c.args.layout.now.cells + c.cell_count-count.result } in
    leaf_laid c.args.extents.table.now c.args.layout.now after c.args.leaf c.cell_count-count.result (c.cell_count-count.ensures.count c.args.leaf) c.requires.ready.count (omega (arith, c.if-count-layout.false)) c.requires.ready.few_cells refl c.in_ok-push.ensures.items refl c.requires.ready.shapes c.requires.shape
