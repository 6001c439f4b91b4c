use Rattle.running_clause.proofs.RunningLaws.{listed_none}
use Rattle.running_clause.proofs.running.RunningClause.clear.Goals as goal

pub returns-clause-list : goal.returns-clause-list
returns-clause-list c = listed_none _ c.empty_out.ensures.empty
