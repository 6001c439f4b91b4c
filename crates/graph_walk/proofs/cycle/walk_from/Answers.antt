use Rattle.graph_walk.proofs.CycleLaws.{step_stays, enters_stays, enters_reached, fewer_left}
use Rattle.graph_walk.proofs.cycle.walk_from.Goals as goal

pub loop-walk-init : goal.loop-walk-init
loop-walk-init c =
    let g = c.args.graph.now in
    let ss = c.args.walk.now.states.items in
    let p = c.args.walk.now.path.items in
    let t = c.args.walk.now.done in
    record {
      walk = c.in_ok-begin.ensures.walk;
      stays = enters_stays g ss p t c.args.root c.begin.new.self.states.items c.begin.new.self.path.items c.requires.walk c.in_ok-begin.ensures.enters;
      reached = enters_reached g ss p t c.args.root c.begin.new.self.states.items c.begin.new.self.path.items c.requires.walk c.in_ok-begin.ensures.enters;
    }

pub loop-walk-preserved : goal.loop-walk-preserved
loop-walk-preserved c =
    let made = c.in_ok-to.ensures.made in
    let walk = c.loop-walk.walk in
    let before = c.loop-walk.invariant in
    let after = c.step.new.self in
    let same = step_stays c.args.graph.now walk.states.items walk.path.items walk.done after.states.items after.path.items c.in_ok-to.field-0 before.walk made.steps in
    record {
      walk = made.walk;
      stays = λ d new. before.stays d (same d new);
      reached = λ new. before.reached (same c.args.root new);
    }

pub loop-walk-smaller : goal.loop-walk-smaller
loop-walk-smaller c =
    let walk = c.loop-walk.walk in
    let after = c.step.new.self in
    fewer_left c.args.graph.now walk.states.items walk.path.items walk.done after.states.items after.path.items after.done c.in_ok-to.field-0 c.in_ok-to.ensures.made c.in_default-2.not-Closed
