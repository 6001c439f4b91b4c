use Rattle.stated_rows.proofs.LoadLaws.{AreWithin}
use Rattle.stated_rows.proofs.packings.hold.Given as goal

abbrev pub invariant-loop-load : goal.invariant-loop-load
invariant-loop-load l = AreWithin l.loads l.fewer l.load-index l.rest
