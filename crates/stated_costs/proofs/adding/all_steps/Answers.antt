use Rattle.std.proofs.Common.{[]}
use Rattle.form_build.proofs.Growth.{adds_nothing, defines_more}
use Rattle.stated_costs.proofs.adding.all_steps.Goals as goal

pub loop-g-init : goal.loop-g-init
loop-g-init c = adds_nothing [] c.args.maker.now

pub loop-g-preserved : goal.loop-g-preserved
loop-g-preserved c = defines_more c.args.maker.now c.loop-g.maker c.push_steps.new.maker c.loop-g.invariant c.in_ok-push_steps.ensures
