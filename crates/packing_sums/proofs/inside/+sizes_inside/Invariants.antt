use Rattle.std.proofs.Common.{length}
use Rattle.packing_sums.proofs.inside.+sizes_inside.Given as goal

abbrev pub decreases-sizes_inside : goal.decreases-sizes_inside
decreases-sizes_inside l = length l.items.now
