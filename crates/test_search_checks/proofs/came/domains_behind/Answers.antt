use Rattle.std.proofs.Common.{◌-◌, arith, rules}
use Rattle.test_search_checks.proofs.WalkBack.{back_begins, back_steps}
use Rattle.test_search_checks.proofs.came.domains_behind.Goals as goal

pub loop-left-init : goal.loop-left-init
loop-left-init c =
    back_begins c.args.clauses.now c.args.store.now c.trail-trail.result.now c.in_ok-boxes.boxes.items
    c.trail-trail.ensures.stack (search rules)

pub loop-left-preserved : goal.loop-left-preserved
loop-left-preserved c =
    let within = c.loop-left.invariant.some_left in
    back_steps c.args.clauses.now c.args.store.now c.trail-trail.result.now (c.loop-left.left - 1)
    c.loop-left.left c.index-trail-left.result c.loop-left.boxes.items c.step_back.new.boxes.items
    (omega arith) (omega arith) c.index-trail-left.is c.loop-left.invariant
    (c.in_ok-step_back.ensures c.if-not-branch.false)
