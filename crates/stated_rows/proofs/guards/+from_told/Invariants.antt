use Rattle.std.proofs.Common.{length}
use Rattle.stated_rows.proofs.guards.+from_told.Given as goal

abbrev pub decreases-from_told : goal.decreases-from_told
decreases-from_told l = length l.others.now
