use Rattle.std.proofs.Common.{pos}
use Rattle.std.specs.Prelude.{int_le}
use Rattle.form_build.specs.Forms.{linear_at, truth_at}
use Rattle.form_truths.proofs.Stating.{defined_says}
use Rattle.form_truths.proofs.tests.state_below.Goals as goal

pub returns-clause-says : goal.returns-clause-says
returns-clause-says c =
    defined_says c.args.m.now c.is_below.new.m c.state_truth.new.m (λ a. truth_at c.in_ok-t.t a) (λ a. int_le (linear_at c.args.f.now a) (pos 0)) c.in_ok-t.ensures.adds c.in_ok-state_truth.ensures.says c.in_ok-t.ensures.value
