use Rattle.std.proofs.Common.{rules, ◌++◌}
use Rattle.object_alloc.specs.Sums.{kinds_of}
use Rattle.object_alloc.specs.Variables.{variables}
use Rattle.object_alloc.proofs.Members.{push_next, push_excess}
use Rattle.object_alloc.proofs.queue.push_members.Goals as goal

pub returns-in-Err-clause-fault : goal.returns-in-Err-clause-fault
returns-in-Err-clause-fault c =
    push_excess c.args.depth (variables c.args.table.now c.args.class) c.loop-k.k c.shape_at-shape.result (search rules) c.shape_at-shape.ensures.shape c.loop-k.queue.items c.args.queue.now.items c.in-Err.fault c.loop-k.invariant.queue c.in-Err.ensures.fault

pub loop-k-preserved : goal.loop-k-preserved
loop-k-preserved c =
    record {
      queue = push_next c.args.depth (variables c.args.table.now c.args.class) c.loop-k.k c.shape_at-shape.result (search rules) c.shape_at-shape.ensures.shape c.loop-k.queue.items c.push_held.new.queue.items (c.args.queue.now.items ++ kinds_of c.args.depth (variables c.args.table.now c.args.class)) c.loop-k.invariant.queue c.in_default.ensures.queue;
      few = c.in_default.ensures.few;
    }
