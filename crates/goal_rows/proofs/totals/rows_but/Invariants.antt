use Rattle.stated_facts.specs.Rows.{IsNought}
use Rattle.goal_rows.proofs.totals.rows_but.Given as goal

abbrev pub invariant-loop-k : goal.invariant-loop-k
invariant-loop-k l = IsNought l.maker l.total
