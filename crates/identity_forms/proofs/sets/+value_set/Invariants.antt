use Rattle.std.proofs.Common.{length}
use Rattle.identity_forms.proofs.sets.+value_set.Given as goal

abbrev pub decreases-value_set : goal.decreases-value_set
decreases-value_set l = length l.values.now
