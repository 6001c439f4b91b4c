use Rattle.std.proofs.Common.{take}
use Rattle.reference_forms.specs.Picks.{AreAlike}
use Rattle.reference_forms.proofs.picks.are_alike.Given as goal

abbrev pub invariant-loop-t : goal.invariant-loop-t
invariant-loop-t l = AreAlike l.boxes l.ends (take l.t-index l.items)
