use Rattle.form_build.proofs.MergedSums.{same_there}
use Rattle.form_truths.proofs.compare.flag_below.Goals as goal

pub at_most-requires-clause-variables : goal.at_most-requires-clause-variables
at_most-requires-clause-variables c = same_there c.args.m.now.domains c.args.f.now.terms c.items.result.now c.items.ensures c.requires.linear.terms
