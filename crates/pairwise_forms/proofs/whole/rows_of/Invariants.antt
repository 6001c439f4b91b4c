use Rattle.std.proofs.Common.{take}
use Rattle.std.specs.List.{All}
use Rattle.form_build.specs.Worlds.{Defines}
use Rattle.pairwise_forms.specs.Packing.{IsPacked}
use Rattle.pairwise_forms.specs.Rows.{AreRows}
use Rattle.pairwise_forms.proofs.whole.rows_of.Given as goal

abbrev pub invariant-loop-e : goal.invariant-loop-e
invariant-loop-e l = record {
  rows : AreRows l.maker (take l.e-index l.items) l.rows.items;
  items : All (IsPacked l.maker.domains) l.items;
  adds : Defines l.fn.maker l.maker;
}
