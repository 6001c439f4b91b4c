use Rattle.std.proofs.Common.{[]}
use Rattle.form_build.proofs.Growth.{adds_nothing, defines_more}
use Rattle.stated_pairs.proofs.PairLaws.{pairs_still}
use Rattle.stated_pairs.proofs.differing.state_cliques.Goals as goal

pub loop-vars-init : goal.loop-vars-init
loop-vars-init c = adds_nothing [] c.args.maker.now

pub state_clique-requires : goal.state_clique-requires
state_clique-requires c = pairs_still c.args.maker.now c.loop-vars.maker c.args.pairs.now c.loop-vars.invariant.grows c.requires

pub loop-vars-preserved : goal.loop-vars-preserved
loop-vars-preserved c = defines_more c.args.maker.now c.loop-vars.maker c.state_clique.new.maker c.loop-vars.invariant c.in_ok-state_clique.ensures
