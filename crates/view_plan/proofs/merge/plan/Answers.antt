use Rattle.std.proofs.Common.{arith, drop}
use Rattle.view_leaves.specs.Views.{leaf_seen, leaves_seen}
use Rattle.view_plan.specs.Views.{lines_seen}
use Rattle.view_plan.proofs.MergeLaws.{leaf_first, no_leaf_left, turn_less, turn_greater, turn_equal, ends_with_new, ends_with_old}
use Rattle.view_plan.proofs.merge.plan.Goals as goal
use Rattle.view_plan.proofs.merge.plan.Goals.{then-loop-i-test+else-j-new, else-loop-i-test}

pub loop-i-preserved-in-Less : goal.loop-i-preserved-in-Less
loop-i-preserved-in-Less c =
    let a = c.index-old-i.result in
    let b = c.index-new-j.result in (
      turn_less _ _ _ _ c.in_ok-turn.field-0 (leaf_seen a) (leaf_seen b) _ _ _ _ c.in-Less.is
          c.in_ok-turn.ensures.order c.in_ok-turn.ensures.lines
          (leaf_first c.args.old.now c.loop-i.i a c.loop-i-test.true c.index-old-i.is)
          (leaf_first c.args.new.now c.loop-i.j b c.if-j-new.true c.index-new-j.is)
          c.loop-i.invariant.0,
      omega arith,
      c.loop-i.invariant.2,
    )

pub loop-i-preserved-in-Greater : goal.loop-i-preserved-in-Greater
loop-i-preserved-in-Greater c =
    let a = c.index-old-i.result in
    let b = c.index-new-j.result in (
      turn_greater _ _ _ _ c.in_ok-turn.field-0 (leaf_seen a) (leaf_seen b) _ _ _ _ c.in-Greater.is
          c.in_ok-turn.ensures.order c.in_ok-turn.ensures.lines
          (leaf_first c.args.old.now c.loop-i.i a c.loop-i-test.true c.index-old-i.is)
          (leaf_first c.args.new.now c.loop-i.j b c.if-j-new.true c.index-new-j.is)
          c.loop-i.invariant.0,
      c.loop-i.invariant.1,
      omega arith,
    )

pub loop-i-preserved : goal.loop-i-preserved
loop-i-preserved c =
    let a = c.index-old-i.result in
    let b = c.index-new-j.result in (
      turn_equal _ _ _ _ c.in_ok-turn.field-0 (leaf_seen a) (leaf_seen b) _ _ _ _ c.in-Equal.is
          c.in_ok-turn.ensures.order c.in_ok-turn.ensures.lines
          (leaf_first c.args.old.now c.loop-i.i a c.loop-i-test.true c.index-old-i.is)
          (leaf_first c.args.new.now c.loop-i.j b c.if-j-new.true c.index-new-j.is)
          c.loop-i.invariant.0,
      omega arith,
      omega arith,
    )

pub returns : goal.returns
returns c =
    let old = leaves_seen c.args.old.now in
    let new = leaves_seen c.args.new.now in
    let lines = lines_seen c.loop-i.lines.items in
    let mid = lines_seen c.push_removed.new.lines.items in
    let last = lines_seen c.push_added.new.lines.items in
    let xs = drop c.loop-i.i c.args.old.now in
    let ys = drop c.loop-i.j c.args.new.now in
    record {
      plan = elim c.loop-i-test.branch [
        | then-loop-i-test+else-j-new w ↦
            ends_with_old old new lines mid last c.rest.result.now c.rest-2.result.now xs ys
            c.rest.ensures c.rest-2.ensures c.in_ok-push_removed.ensures
            c.in_ok-push_added.ensures (no_leaf_left c.args.new.now c.loop-i.j w.if-j-new.false)
            c.loop-i.invariant.0
        | else-loop-i-test w ↦
            ends_with_new old new lines mid last c.rest.result.now c.rest-2.result.now xs ys
            c.rest.ensures c.rest-2.ensures c.in_ok-push_removed.ensures
            c.in_ok-push_added.ensures (no_leaf_left c.args.old.now c.loop-i.i w.loop-i-test.false)
            c.loop-i.invariant.0
      ];
    }
