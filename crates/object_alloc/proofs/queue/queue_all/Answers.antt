use Rattle.std.proofs.Common.{rules, ◌≡◌, ◌+◌, ◌<◌, ◌++◌, length, arith, sym, ap, subst, ◌∙◌, length-append}
use Rattle.class_table.specs.Outline.{attributes}
use Rattle.object_alloc.specs.Sums.{IsLawful, kinds_of}
use Rattle.object_alloc.proofs.QueueSteps.{one, balance_start, balance_next, first_excess, next_excess, lawful_kinds, lawful_at, lawful_append}
use Rattle.object_alloc.proofs.ShapeLaws.{shapes, root_shapes}
use Rattle.object_alloc.proofs.queue.queue_all.Goals as goal

pub returns-in-Err-clause-fault : goal.returns-in-Err-clause-fault
returns-in-Err-clause-fault c =
    let o = c.args.table.now in
    first_excess o (length c.new-queue.result.items + length (kinds_of 1 o.roots)) c.in-Err.fault (omega (arith, ap length c.new-queue.ensures.items)) c.in-Err.ensures.fault

pub loop-head-init : goal.loop-head-init
loop-head-init c =
    let o = c.args.table.now in
    let queue : c.push_members.new.queue.items ≡ kinds_of 1 o.roots = c.in_default.ensures.queue ∙ ap (λ xs. xs ++ kinds_of 1 o.roots) c.new-queue.ensures.items in
    record {
      total = λ g. balance_start o g c.push_members.new.queue.items queue;
      lawful = subst (IsLawful (length o.classes) 1) (sym queue) (lawful_kinds (length o.classes) (length o.enumerations) 1 1 o.roots (root_shapes o c.requires.sound) (omega arith));
      few = c.in_default.ensures.few;
      within = omega arith;
      lists = λ k shapes e. (let none = c.in_ok-lists.ensures.none k in cc);
      size = c.in_ok-lists.ensures.size ∙ c.class_count.ensures.count;
    }

pub overflow_add-depth : goal.overflow_add-depth
overflow_add-depth c =
    let l = lawful_at (length c.args.table.now.classes) 1 c.loop-head.queue.items c.loop-head.head c.index-kind.result.now c.loop-head.invariant.lawful (search rules) (search rules) in
    omega (arith, l.1, c.loop-head.invariant.few)

pub push_parts-requires-clause-class :
    goal.push_parts-requires-clause-class
push_parts-requires-clause-class c =
    let l = lawful_at (length c.args.table.now.classes) 1 c.loop-head.queue.items c.loop-head.head c.index-kind.result.now c.loop-head.invariant.lawful (search rules) (search rules) in
    l.0

pub returns-in-Err-push_parts-clause-fault : goal.returns-in-Err-push_parts-clause-fault
returns-in-Err-push_parts-clause-fault c =
    let r = c.requires.sound.nesting in
    let l = lawful_at (length c.args.table.now.classes) 1 c.loop-head.queue.items c.loop-head.head c.index-kind.result.now c.loop-head.invariant.lawful (search rules) (search rules) in
    next_excess c.args.table.now r c.loop-head.queue.items c.loop-head.head c.index-kind.result.now c.in-Err-push_parts.fault (search rules) (search rules) l.0 (c.loop-head.invariant.total one) c.in-Err-push_parts.ensures.fault

pub loop-head-preserved : goal.loop-head-preserved
loop-head-preserved c =
    let o = c.args.table.now in
    let k = c.index-kind.result.now in
    let queue = c.loop-head.queue.items in
    let h : c.loop-head.head < length queue = search rules in
    let l = lawful_at (length o.classes) 1 queue c.loop-head.head k c.loop-head.invariant.lawful h (search rules) in
    let new = c.in_default-push_parts.ensures.queue in
    record {
      total = λ g. balance_next o c.requires.sound.nesting g queue c.push_parts.new.queue.items c.loop-head.head k h (search rules) l.0 new ∙ c.loop-head.invariant.total g;
      lawful = subst (IsLawful (length o.classes) 1) (sym new)
          (lawful_append (length o.classes) 1 queue (kinds_of (k.depth + 1) (attributes o.classes k.class)) c.loop-head.invariant.lawful
          (lawful_kinds (length o.classes) (length o.enumerations) (1 + length queue) (k.depth + 1) (attributes o.classes k.class) (shapes o c.requires.sound k.class) (omega (arith, l.1, h))));
      few = c.in_default-push_parts.ensures.few;
      lists = c.in_default-push_parts.ensures.lists;
      size = c.in_default-push_parts.ensures.size ∙ c.loop-head.invariant.size;
      within = omega (arith, h, ap length new, length-append queue (kinds_of (k.depth + 1) (attributes o.classes k.class)));
    }
