use Rattle.std.proofs.Common.{rules, [], pos, w64, ◌∙◌}
use Rattle.std.proofs.lemmas.Int.{to_z-of_z}
use Rattle.std.specs.Prelude.{int_le}
use Rattle.form_build.specs.Forms.{linear_at}
use Rattle.form_build.proofs.MergedSums.{same_there}
use Rattle.form_build.proofs.Growth.{adds_same}
use Rattle.form_truths.proofs.Singles.{below_bound}
use Rattle.form_truths.proofs.tests.state_row.Goals as goal

pub require_at_most-requires-clause-variables : goal.require_at_most-requires-clause-variables
require_at_most-requires-clause-variables c = same_there c.args.m.now.domains c.args.f.now.terms c.items.result.now c.items.ensures c.requires.linear.terms

pub returns-clause-says : goal.returns-clause-says
returns-clause-says c =
    adds_same [] c.args.m.now c.require_at_most.new.self _ (λ a. int_le (linear_at c.args.f.now a) (pos 0)) (λ a w kn. below_bound c.items.result.now c.args.f.now _ a c.items.ensures (to_z-of_z w64 c.minus.result (search rules) ∙ c.minus.ensures)) c.in_ok-require_at_most.ensures.says
