use Rattle.form_build.proofs.Growth.{defines_more}
use Rattle.packing_sums.proofs.PackingLaws.{packing_kept}
use Rattle.stated_facts.proofs.NoughtLaws.{nought_kept}
use Rattle.goal_rows.proofs.adding.add_for_packing.Goals as goal

pub add_used-requires-2-clause-nought : goal.add_used-requires-2-clause-nought
add_used-requires-2-clause-nought c = nought_kept c.args.maker.now c.add_used.new.maker c.args.zero.now c.in_ok-add_used.ensures.grows c.requires.nought

pub add_used-requires-2-clause-packing : goal.add_used-requires-2-clause-packing
add_used-requires-2-clause-packing c = packing_kept c.args.maker.now c.add_used.new.maker c.args.p.now c.in_ok-add_used.ensures.grows c.requires.packing

pub add_for_sets-requires-clause-nought : goal.add_for_sets-requires-clause-nought
add_for_sets-requires-clause-nought c =
    let both = defines_more c.args.maker.now c.add_used.new.maker c.add_used-2.new.maker c.in_ok-add_used.ensures c.in_ok-add_used-2.ensures in
    nought_kept c.args.maker.now c.add_used-2.new.maker c.args.zero.now both.grows c.requires.nought

pub add_for_sets-requires-clause-packing : goal.add_for_sets-requires-clause-packing
add_for_sets-requires-clause-packing c =
    let both = defines_more c.args.maker.now c.add_used.new.maker c.add_used-2.new.maker c.in_ok-add_used.ensures c.in_ok-add_used-2.ensures in
    packing_kept c.args.maker.now c.add_used-2.new.maker c.args.p.now both.grows c.requires.packing

pub returns : goal.returns
returns c =
    defines_more c.args.maker.now c.add_used-2.new.maker c.add_for_sets.new.maker
    (defines_more c.args.maker.now c.add_used.new.maker c.add_used-2.new.maker c.in_ok-add_used.ensures c.in_ok-add_used-2.ensures)
    c.in_ok-add_for_sets.ensures
