use Rattle.std.proofs.Common.{[]}
use Rattle.form_build.proofs.Growth.{adds_nothing, defines_more}
use Rattle.stated_cases.proofs.TableLaws.{entries_still}
use Rattle.stated_cases.proofs.tables.state_table.Goals as goal

pub returns-then-open : goal.returns-then-open
returns-then-open c = adds_nothing [] c.args.maker.now

pub state_order-requires-2 : goal.state_order-requires-2
state_order-requires-2 c = entries_still c.args.maker.now c.state_order.new.maker c.args.entries.now c.in_ok-state_order.ensures.grows c.requires

pub returns : goal.returns
returns c = defines_more c.args.maker.now c.state_order.new.maker c.state_order-2.new.maker c.in_ok-state_order.ensures c.in_ok-state_order-2.ensures
