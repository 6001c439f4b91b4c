use Rattle.std.proofs.Common.{[]}
use Rattle.form_build.proofs.Growth.{adds_nothing, defines_more}
use Rattle.goal_rows.proofs.totals.add_differences.Goals as goal

pub loop-c-init : goal.loop-c-init
loop-c-init c = adds_nothing [] c.args.maker.now

pub loop-c-preserved : goal.loop-c-preserved
loop-c-preserved c = defines_more c.args.maker.now c.loop-c.maker c.add_difference.new.maker c.loop-c.invariant c.in_ok-add_difference.ensures
