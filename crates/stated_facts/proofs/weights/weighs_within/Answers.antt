use Rattle.form_build.proofs.MergedSums.{same_there}
use Rattle.stated_facts.proofs.weights.weighs_within.Goals as goal

pub weight-requires-clause-exist : goal.weight-requires-clause-exist
weight-requires-clause-exist c = same_there c.args.boxes.now c.args.f.now.terms c.items.result.now c.items.ensures c.requires.terms
