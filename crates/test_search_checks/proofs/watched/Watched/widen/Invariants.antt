use Rattle.std.proofs.Common.{length}
use Rattle.test_search_checks.proofs.watched.Watched.widen.Given as goal

abbrev pub decreases-loop-set : goal.decreases-loop-set
decreases-loop-set l = length l.boxes.items
