use Rattle.std.proofs.Common.{◌^◌}
use Rattle.form_build.proofs.Growth.{world_before, defines_more}
use Rattle.form_build.proofs.Keeping.{linear_kept}
use Rattle.packing_sums.proofs.PackingLaws.{packing_kept}
use Rattle.stated_facts.proofs.NoughtLaws.{nought_kept}
use Rattle.packing_sums.proofs.shares.state_both.Goals as goal

pub state_outside-requires-clause-nought : goal.state_outside-requires-clause-nought
state_outside-requires-clause-nought c = nought_kept c.args.maker.now c.state_inside.new.maker c.args.zero.now c.in_ok-state_inside.ensures.grows c.requires.nought

pub state_outside-requires-clause-packing : goal.state_outside-requires-clause-packing
state_outside-requires-clause-packing c = packing_kept c.args.maker.now c.state_inside.new.maker c.args.p.now c.in_ok-state_inside.ensures.grows c.requires.packing

pub state_outside-requires-clause-inside : goal.state_outside-requires-clause-inside
state_outside-requires-clause-inside c = linear_kept (2 ^ 39) c.args.maker.now c.state_inside.new.maker c.args.f.now c.in_ok-state_inside.ensures.grows c.requires.inside

pub state_outside-requires-clause-value : goal.state_outside-requires-clause-value
state_outside-requires-clause-value c a w = c.requires.value a (world_before c.args.maker.now c.state_inside.new.maker a c.in_ok-state_inside.ensures.grows w)

pub returns : goal.returns
returns c = defines_more c.args.maker.now c.state_inside.new.maker c.state_outside.new.maker c.in_ok-state_inside.ensures c.in_ok-state_outside.ensures
