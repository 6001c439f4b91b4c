use Rattle.std.proofs.Common.{length}
use Rattle.quantifier_forms.proofs.totals.+total.Given as goal

abbrev pub decreases-total : goal.decreases-total
decreases-total l = length l.sums.now
