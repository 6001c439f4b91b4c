use Rattle.std.proofs.Common.{take}
use Rattle.packing_sums.specs.Hosts.{StayAt}
use Rattle.packing_sums.proofs.hosts.stay_at.Given as goal

abbrev pub invariant-loop-s : goal.invariant-loop-s
invariant-loop-s l = StayAt l.boxes l.vars l.bin (take l.s-index l.items) l.sum
