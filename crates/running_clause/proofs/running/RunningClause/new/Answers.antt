use Rattle.running_clause.proofs.RunningLaws.{listed_none}
use Rattle.running_clause.proofs.running.RunningClause.new.Goals as goal

pub returns-clause-list : goal.returns-clause-list
returns-clause-list c = listed_none _ c.in_ok-sets.ensures.empty
