use Rattle.stated_rows.proofs.LoadLaws.{AreElsewhere}
use Rattle.stated_rows.proofs.packings.are_away.Given as goal

abbrev pub invariant-loop-load : goal.invariant-loop-load
invariant-loop-load l = AreElsewhere l.maker l.bin.value l.loads l.load-index
