use Rattle.std.proofs.Common.{length}
use Rattle.conf_parse.proofs.row.+fixed.Given as goal

abbrev pub decreases-fixed : goal.decreases-fixed
decreases-fixed l = length l.wanted.now
