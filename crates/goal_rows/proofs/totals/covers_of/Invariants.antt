use Rattle.stated_facts.specs.Rows.{IsNought}
use Rattle.goal_rows.proofs.totals.covers_of.Given as goal

abbrev pub invariant-loop-i : goal.invariant-loop-i
invariant-loop-i l = IsNought l.maker l.total
