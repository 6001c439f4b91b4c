use Rattle.form_build.proofs.Growth.{defines_more}
use Rattle.stated_facts.proofs.NoughtLaws.{nought_kept}
use Rattle.goal_rows.proofs.totals.add_with_each.Goals as goal

pub add_each-requires : goal.add_each-requires
add_each-requires c = nought_kept c.args.maker.now c.add_but.new.maker c.args.covers.now c.in_ok-add_but.ensures.grows c.requires

pub returns : goal.returns
returns c = defines_more c.args.maker.now c.add_but.new.maker c.add_each.new.maker c.in_ok-add_but.ensures c.in_ok-add_each.ensures
