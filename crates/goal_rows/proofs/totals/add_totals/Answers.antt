use Rattle.form_build.proofs.Growth.{defines_more}
use Rattle.goal_rows.proofs.totals.add_totals.Goals as goal

pub loop-group-init : goal.loop-group-init
loop-group-init c = c.in_ok-add_differences.ensures

pub loop-group-preserved : goal.loop-group-preserved
loop-group-preserved c = defines_more c.args.maker.now c.loop-group.maker c.add_total.new.maker c.loop-group.invariant c.in_ok-add_total.ensures
