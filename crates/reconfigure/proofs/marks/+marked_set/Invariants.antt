use Rattle.std.proofs.Common.{length}
use Rattle.reconfigure.proofs.marks.+marked_set.Given as goal

abbrev pub decreases-marked_set : goal.decreases-marked_set
decreases-marked_set l = length l.marks.now
