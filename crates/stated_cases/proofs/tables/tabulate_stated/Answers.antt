use Rattle.std.proofs.Common.{[]}
use Rattle.form_build.proofs.Growth.{adds_nothing, defines_more}
use Rattle.stated_cases.proofs.tables.tabulate_stated.Goals as goal

pub loop-at-init : goal.loop-at-init
loop-at-init c = adds_nothing [] c.args.maker.now

pub loop-at-preserved : goal.loop-at-preserved
loop-at-preserved c = defines_more c.args.maker.now c.loop-at.maker c.state_from.new.maker c.loop-at.invariant c.in_ok-state_from.ensures
