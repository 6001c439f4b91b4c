use Rattle.stated_facts.specs.Rows.{IsNought}
use Rattle.goal_rows.proofs.parts.rows_of.Given as goal

abbrev pub invariant-loop-part : goal.invariant-loop-part
invariant-loop-part l = IsNought l.maker l.total
