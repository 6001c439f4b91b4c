use Rattle.std.proofs.Common.{length}
use Rattle.search_costs.proofs.log_timing.lines_of.Given as goal

abbrev pub decreases-loop-part : goal.decreases-loop-part
decreases-loop-part l = length l.left
