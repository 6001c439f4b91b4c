use Rattle.form_build.specs.Worlds.{Defines}
use Rattle.stated_facts.specs.Rows.{IsNought}
use Rattle.goal_rows.proofs.adding.add_by.Given as goal

abbrev pub invariant-loop-k : goal.invariant-loop-k
invariant-loop-k l = record {
  nought : IsNought l.maker l.zero;
  adds : Defines l.fn.maker l.maker;
}
