use Rattle.std.proofs.Common.{[]}
use Rattle.form_build.proofs.Growth.{adds_nothing}
use Rattle.ground_form.specs.Meaning.{all_differ}
use Rattle.stated_pairs.proofs.PairLaws.{defines_following}
use Rattle.stated_pairs.proofs.differing.state_clique.Goals as goal

pub returns-in_default : goal.returns-in_default
returns-in_default c = adds_nothing [] c.args.maker.now

pub returns : goal.returns
returns c =
    defines_following c.args.maker.now c.require_different.new.self (λ a. all_differ c.in-Some.found.now a) c.in-Some.ensures.differ c.in_ok-require_different.ensures.says
