use Rattle.conf_core.proofs.SuspectLaws.{AreFresh}
use Rattle.conf_core.proofs.suspects.suspects_of.Given as goal

-- those so far
abbrev pub invariant-loop-marked : goal.invariant-loop-marked
invariant-loop-marked l = AreFresh l.marked-index l.list.items
