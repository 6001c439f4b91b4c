use Rattle.std.proofs.Common.{rules}
use Rattle.class_table.specs.Outline.{attributes}
use Rattle.object_alloc.specs.Holding.{kinds_in}
use Rattle.object_alloc.specs.Sums.{kinds_of}
use Rattle.object_alloc.proofs.Members.{push_next}
use Rattle.object_alloc.proofs.queue.shapes_in.Goals as goal

pub loop-k-preserved : goal.loop-k-preserved
loop-k-preserved c =
    λ d. (let all = attributes c.args.table.now.classes c.args.class in
    push_next d all c.loop-k.k c.shape_at-shape.result (search rules) c.shape_at-shape.ensures.shape (kinds_in d c.loop-k.shapes.items) (kinds_in d c.add_shape.new.shapes.items) (kinds_of d all) (c.loop-k.invariant d) (c.in_ok-add_shape.ensures.shapes d))
