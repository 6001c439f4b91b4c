use Rattle.std.proofs.Common.{take, length}
use Rattle.form_build.specs.Worlds.{Defines, IsFew}
use Rattle.form_truths.specs.Disjunctions.{IsWithin}
use Rattle.form_truths.specs.Parts.{ArePartsOf}
use Rattle.form_truths.proofs.flags.parts_of.Given as goal

abbrev pub invariant-loop-l : goal.invariant-loop-l
invariant-loop-l l = record {
  parts : ArePartsOf l.m l.parts.items (take l.l-index l.literals);
  adds : Defines l.fn.m l.m;
  few : IsFew l.l-index l.fn.m l.m;
  exist : IsWithin (length l.m.domains) l.literals;
}
