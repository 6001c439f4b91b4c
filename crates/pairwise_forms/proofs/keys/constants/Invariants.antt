use Rattle.std.proofs.Common.{take}
use Rattle.form_build.specs.Worlds.{Defines}
use Rattle.pairwise_forms.specs.KeyValues.{AreConstants}
use Rattle.pairwise_forms.proofs.keys.constants.Given as goal

abbrev pub invariant-loop-pair : goal.invariant-loop-pair
invariant-loop-pair l = record {
  items : AreConstants l.maker (take l.pair-index l.pairs) l.items.items;
  adds : Defines l.fn.maker l.maker;
}
