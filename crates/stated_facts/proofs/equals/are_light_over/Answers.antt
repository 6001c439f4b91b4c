use Rattle.std.proofs.Common.{refl}
use Rattle.form_build.proofs.MergedSums.{same_there}
use Rattle.stated_facts.proofs.equals.are_light_over.Goals as goal

pub weight-requires-clause-exist : goal.weight-requires-clause-exist
weight-requires-clause-exist c = same_there c.args.boxes.now c.args.terms.now c.args.terms.now refl (c.are_terms.ensures c.if-are_terms.true)
