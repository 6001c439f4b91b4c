use Rattle.std.proofs.Common.{◌^◌}
use Rattle.form_build.specs.Worlds.{Defines}
use Rattle.form_build.specs.Sums.{IsLinear}
use Rattle.stated_facts.specs.Rows.{Follows, IsNought}
use Rattle.packing_sums.proofs.rows.state_multiples.Given as goal

abbrev pub invariant-loop-m : goal.invariant-loop-m
invariant-loop-m l = record {
  row : IsLinear (2 ^ 40) l.maker.domains l.row;
  follows : Follows l.maker l.row;
  nought : IsNought l.maker l.zero;
  adds : Defines l.fn.maker l.maker;
}
