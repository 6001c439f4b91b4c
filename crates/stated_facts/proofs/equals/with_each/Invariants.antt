use Rattle.stated_facts.specs.Rows.{IsNought}
use Rattle.stated_facts.proofs.equals.with_each.Given as goal

abbrev pub invariant-loop-k : goal.invariant-loop-k
invariant-loop-k l = IsNought l.maker l.zero
