use Rattle.std.proofs.Common.{[]}
use Rattle.form_build.proofs.Growth.{adds_nothing, defines_more}
use Rattle.stated_cases.proofs.TableLaws.{entries_still}
use Rattle.stated_cases.proofs.tables.state_steps.Goals as goal

pub loop-k-init : goal.loop-k-init
loop-k-init c = adds_nothing [] c.args.maker.now

pub state_step-requires : goal.state_step-requires
state_step-requires c = entries_still c.args.maker.now c.loop-k.maker c.args.chain.now c.loop-k.invariant.grows c.requires

pub loop-k-preserved : goal.loop-k-preserved
loop-k-preserved c = defines_more c.args.maker.now c.loop-k.maker c.state_step.new.maker c.loop-k.invariant c.in_ok-state_step.ensures
