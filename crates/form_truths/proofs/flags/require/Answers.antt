use Rattle.std.proofs.Common.{[], true, sym}
use Rattle.form_build.proofs.Growth.{adds_nothing, adds_same}
use Rattle.form_truths.specs.Disjunctions.{disjunction_at}
use Rattle.form_truths.proofs.PartLaws.{holds_always}
use Rattle.form_truths.proofs.flags.require.Goals as goal

pub returns-in-None-clause-says : goal.returns-in-None-clause-says
returns-in-None-clause-says c =
    adds_same [] c.args.m.now c.args.m.now (λ a. true) (λ a. disjunction_at c.args.d a) (λ a w kn. sym (holds_always c.args.d a c.in-None.ensures.holds.1)) (adds_nothing [] c.args.m.now)
