use Rattle.stated_cases.proofs.TableLaws.{is_entry, is_turned}
use Rattle.stated_cases.proofs.reading.entry_in.Goals as goal

pub returns-then-turned : goal.returns-then-turned
returns-then-turned c =
    let told = c.in_ok-back.ensures in
    is_turned c.args.maker.now c.in_ok-back.back c.in-Some.m.now c.in-Some.l.now told.index told.others told.number told.values c.args.c.now c.requires c.in-Some.ensures

pub returns : goal.returns
returns c =
    let told = c.in_ok-e.ensures in
    is_entry c.args.maker.now c.in_ok-e.e c.in-Some.l.now c.in-Some.m.now told.index told.others told.number told.values c.args.c.now c.requires c.in-Some.ensures
