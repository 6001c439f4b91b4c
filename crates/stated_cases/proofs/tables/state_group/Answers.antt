use Rattle.form_build.proofs.Growth.{defines_more}
use Rattle.stated_cases.proofs.tables.state_group.Goals as goal

pub returns : goal.returns
returns c = defines_more c.args.maker.now c.state_table.new.maker c.state_table-2.new.maker c.in_ok-done.ensures c.in_ok-state_table.ensures
