use Rattle.std.proofs.Common.{None, pos}
use Rattle.object_alloc.specs.declared.object.Cell.{Cell}
use Rattle.object_alloc.specs.declared.object.Domain.TheVariants.{Span}
use Rattle.object_alloc.specs.Groups.{is_cell_of, numbers_from}
use Rattle.object_alloc.specs.Grouping.{group}
use Rattle.object_alloc.proofs.GroupLaws.{group_grown}
use Rattle.object_alloc.proofs.groups.cells_by_place.Goals as goal

pub loop-n-preserved : goal.loop-n-preserved
loop-n-preserved c owner k =
    let d : Cell = record { owner = None; attribute = 0; element = None; domain = Span (pos 0) (pos 0) } in
    group_grown (is_cell_of owner k) c.args.cells.now c.loop-n.n d (group c.loop-n.groups.entries owner k) (group c.add.new.groups.entries owner k) (numbers_from (is_cell_of owner k) 0 c.args.cells.now) c.loop-n-test.true (c.loop-n.invariant owner k) (c.in_ok-add.ensures.group owner k)
