use Rattle.std.proofs.Common.{[]}
use Rattle.form_build.proofs.Growth.{adds_nothing, defines_more}
use Rattle.packing_sums.proofs.PackingLaws.{packing_kept}
use Rattle.stated_facts.proofs.NoughtLaws.{nought_kept}
use Rattle.goal_rows.proofs.parts.add_parts.Goals as goal

pub returns-then-not-is_divided : goal.returns-then-not-is_divided
returns-then-not-is_divided c = adds_nothing [] c.args.maker.now

pub state_parts-requires-2-clause-nought : goal.state_parts-requires-2-clause-nought
state_parts-requires-2-clause-nought c = nought_kept c.args.maker.now c.state_parts.new.maker c.args.zero.now c.in_ok-state_parts.ensures.grows c.requires.nought

pub state_parts-requires-2-clause-packing : goal.state_parts-requires-2-clause-packing
state_parts-requires-2-clause-packing c = packing_kept c.args.maker.now c.state_parts.new.maker c.args.p.now c.in_ok-state_parts.ensures.grows c.requires.packing

pub returns : goal.returns
returns c = defines_more c.args.maker.now c.state_parts.new.maker c.state_parts-2.new.maker c.in_ok-state_parts.ensures c.in_ok-state_parts-2.ensures
