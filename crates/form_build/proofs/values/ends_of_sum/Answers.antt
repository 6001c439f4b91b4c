use Rattle.form_build.proofs.MergedSums.{same_there}
use Rattle.form_build.proofs.values.ends_of_sum.Goals as goal

pub least_sum-requires-clause-vars : goal.least_sum-requires-clause-vars
least_sum-requires-clause-vars c = same_there c.args.boxes.now c.args.f.now.terms c.items.result.now c.items.ensures c.requires.terms

pub greatest_sum-requires-clause-vars : goal.greatest_sum-requires-clause-vars
greatest_sum-requires-clause-vars c = same_there c.args.boxes.now c.args.f.now.terms c.items-2.result.now c.items-2.ensures c.requires.terms
