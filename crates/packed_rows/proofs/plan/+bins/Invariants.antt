use Rattle.std.proofs.Common.{length}
use Rattle.packed_rows.proofs.plan.+bins.Given as goal

abbrev pub decreases-bins : goal.decreases-bins
decreases-bins l = length l.rows.now
