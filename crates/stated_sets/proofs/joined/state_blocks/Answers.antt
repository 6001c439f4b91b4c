use Rattle.std.proofs.Common.{[]}
use Rattle.form_build.proofs.Growth.{adds_nothing, defines_more}
use Rattle.stated_sets.proofs.JoinedSets.{stated_still}
use Rattle.stated_sets.proofs.joined.state_blocks.Goals as goal

pub loop-l-init : goal.loop-l-init
loop-l-init c = adds_nothing [] c.args.maker.now

pub loop-l-preserved : goal.loop-l-preserved
loop-l-preserved c = defines_more c.args.maker.now c.loop-l.maker c.state_block.new.maker c.loop-l.invariant c.in_ok-state_block.ensures
