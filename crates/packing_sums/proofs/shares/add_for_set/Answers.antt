use Rattle.form_build.proofs.Growth.{defines_more}
use Rattle.packing_sums.proofs.PackingLaws.{packing_kept}
use Rattle.stated_facts.proofs.NoughtLaws.{nought_kept}
use Rattle.packing_sums.proofs.shares.add_for_set.Goals as goal

pub state_both-requires-clause-nought : goal.state_both-requires-clause-nought
state_both-requires-clause-nought c = nought_kept c.args.maker.now c.sizes_inside.new.maker c.args.zero.now c.in_ok-f.ensures.adds.grows c.requires.nought

pub state_both-requires-clause-packing : goal.state_both-requires-clause-packing
state_both-requires-clause-packing c = packing_kept c.args.maker.now c.sizes_inside.new.maker c.args.p.now c.in_ok-f.ensures.adds.grows c.requires.packing

pub returns : goal.returns
returns c = defines_more c.args.maker.now c.sizes_inside.new.maker c.state_both.new.maker c.in_ok-f.ensures.adds c.in_ok-state_both.ensures
