use Rattle.stated_facts.specs.Rows.{IsNought}
use Rattle.stated_facts.proofs.equals.with_rows.Given as goal

abbrev pub invariant-loop : goal.invariant-loop
invariant-loop l = IsNought l.maker l.zero
