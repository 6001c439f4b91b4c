use Rattle.form_build.specs.Forms.{truth_at}
use Rattle.form_truths.specs.Tests.{test_at}
use Rattle.form_truths.proofs.Stating.{defined_says}
use Rattle.form_truths.proofs.tests.state_as_truth.Goals as goal

pub returns-clause-says : goal.returns-clause-says
returns-clause-says c =
    defined_says c.args.m.now c.truth_of_test.new.m c.state_truth.new.m (λ a. truth_at c.in_ok-t.t a) (λ a. test_at c.args.test.now a) c.in_ok-t.ensures.adds c.in_ok-state_truth.ensures.says c.in_ok-t.ensures.value
