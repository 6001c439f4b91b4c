use Rattle.std.proofs.Common.{take}
use Rattle.std.specs.List.{All}
use Rattle.form_build.specs.Worlds.{Defines}
use Rattle.pairwise_forms.specs.Packing.{HasItemPart, AreItems}
use Rattle.pairwise_forms.proofs.loads.packed.Given as goal

abbrev pub invariant-loop-p : goal.invariant-loop-p
invariant-loop-p l = record {
  items : AreItems l.maker (take l.p-index l.parts) l.items.items;
  parts : All (HasItemPart l.maker.domains) l.parts;
  adds : Defines l.fn.maker l.maker;
}
