use Rattle.std.proofs.Common.{take}
use Rattle.std.specs.List.{All}
use Rattle.form_build.specs.Worlds.{Defines}
use Rattle.pairwise_forms.specs.Clashing.{HasKeyPart, AreKeyed}
use Rattle.pairwise_forms.proofs.clashes.keyed.Given as goal

abbrev pub invariant-loop-p : goal.invariant-loop-p
invariant-loop-p l = record {
  keyed : AreKeyed l.maker (take l.p-index l.parts) l.members.items;
  parts : All (HasKeyPart l.maker.domains) l.parts;
  adds : Defines l.fn.maker l.maker;
}
