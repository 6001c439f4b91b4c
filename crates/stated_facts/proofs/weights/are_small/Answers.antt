use Rattle.std.proofs.Common.{refl}
use Rattle.form_build.proofs.MergedSums.{same_there}
use Rattle.stated_facts.proofs.weights.are_small.Goals as goal

pub weight_of-requires : goal.weight_of-requires
weight_of-requires c = record { exist = same_there c.args.boxes.now c.args.terms.now c.args.terms.now refl (c.if-not-are_terms.ensures refl) }
