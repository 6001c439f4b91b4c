use Rattle.std.proofs.Common.{◌≡◌, ◌+◌, drop}
use Rattle.packing_sums.specs.Loads.{size_of}
use Rattle.packing_sums.proofs.packing.whole_of.Given as goal

abbrev pub invariant-loop-s : goal.invariant-loop-s
invariant-loop-s l = l.sum + size_of (drop l.s-index l.items) ≡ size_of l.items
