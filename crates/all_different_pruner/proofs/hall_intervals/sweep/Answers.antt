use Rattle.std.proofs.Common.{get_or, refl, sym, ◌∙◌}
use Rattle.all_different_pruner.proofs.Behind.{swept_step, none_holds}
use Rattle.all_different_pruner.proofs.hall_intervals.sweep.Goals as goal

pub loop-x-preserved : goal.loop-x-preserved
loop-x-preserved c rest =
    let here = none_holds _ _ _ (sym c.is_some.ensures ∙ c.if-is_some.false) c.in_ok-found.ensures.none in
    c.loop-x.invariant (swept_step c.args.vars.now c.args.boxes.now c.loop-x.x-index (get_or c.args.vars.now c.loop-x.x-index 0) c.loop-x-test.true refl here rest)
