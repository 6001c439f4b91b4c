use Rattle.form_build.specs.Worlds.{Defines}
use Rattle.packing_sums.specs.Packings.{IsPacking}
use Rattle.goal_rows.proofs.parts.state_parts.Given as goal

abbrev pub invariant-loop-part : goal.invariant-loop-part
invariant-loop-part l = record {
  packing : IsPacking l.maker l.p;
  adds : Defines l.fn.maker l.maker;
}
