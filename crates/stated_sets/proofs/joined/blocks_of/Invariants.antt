use Rattle.stated_sets.specs.Joined.{IsJoining}
use Rattle.stated_sets.proofs.joined.blocks_of.Given as goal

abbrev pub invariant-loop-k : goal.invariant-loop-k
invariant-loop-k l = IsJoining l.maker l.joining
