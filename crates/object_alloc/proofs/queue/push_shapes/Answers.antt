use Rattle.std.proofs.Common.{◌+◌, length, drop, get_or, ap, arith, length-append, pos}
use Rattle.class_table.specs.declared.table.Resolved.TheVariants.{Span}
use Rattle.object_alloc.specs.Holding.{kinds_in}
use Rattle.object_alloc.specs.Sums.{held_kinds}
use Rattle.object_alloc.proofs.Members.{shape_next}
use Rattle.object_alloc.proofs.QueueSteps.{excess_more}
use Rattle.object_alloc.proofs.queue.push_shapes.Goals as goal

pub returns-in-Err-clause-fault : goal.returns-in-Err-clause-fault
returns-in-Err-clause-fault c =
    let d = c.args.depth in
    let shapes = c.args.shapes.now in
    let i = c.loop-shape.shape-index in
    let queue = c.loop-shape.queue.items in
    let shape = get_or shapes i (Span (pos 0) (pos 0)) in
    let next = ap length (shape_next d shapes i (Span (pos 0) (pos 0)) c.loop-shape-test.true) in
    let all = ap length c.loop-shape.invariant.queue in
    excess_more (length queue + length (held_kinds d shape)) (length c.args.queue.now.items + length (kinds_in d shapes)) c.in-Err.fault
    (omega (arith, next, all, length-append queue (kinds_in d (drop i shapes)), length-append c.args.queue.now.items (kinds_in d shapes), length-append (held_kinds d shape) (kinds_in d (drop (i + 1) shapes))))
    c.in-Err.ensures.fault
