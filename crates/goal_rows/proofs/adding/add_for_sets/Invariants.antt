use Rattle.form_build.specs.Worlds.{Defines}
use Rattle.packing_sums.specs.Packings.{IsPacking}
use Rattle.stated_facts.specs.Rows.{IsNought}
use Rattle.goal_rows.proofs.adding.add_for_sets.Given as goal

abbrev pub invariant-loop-one : goal.invariant-loop-one
invariant-loop-one l = record {
  nought : IsNought l.maker l.zero;
  packing : IsPacking l.maker l.p;
  adds : Defines l.fn.maker l.maker;
}
