use Rattle.form_build.specs.Worlds.{Defines}
use Rattle.stated_facts.specs.Rows.{IsNought}
use Rattle.goal_rows.proofs.totals.add_each.Given as goal

abbrev pub invariant-loop-k : goal.invariant-loop-k
invariant-loop-k l = record {
  nought : IsNought l.maker l.covers;
  adds : Defines l.fn.maker l.maker;
}
