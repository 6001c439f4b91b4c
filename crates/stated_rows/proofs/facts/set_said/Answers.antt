use Rattle.stated_rows.proofs.FactLaws.{said_by}
use Rattle.stated_rows.proofs.facts.set_said.Goals as goal

pub returns-clause-holds : goal.returns-clause-holds
returns-clause-holds c = said_by c.args.maker.now c.in_ok-con.con.now c.args.x c.in_ok-set.set.now c.in_ok-con.ensures c.in_ok-set.ensures.holds
