use Rattle.std.proofs.Common.{ap, ℤ}
use Rattle.box_rules.proofs.SumSteps.{least_fits}
use Rattle.box_rules.proofs.sums.least_term.Goals as goal

pub returns-clause-fits : goal.returns-clause-fits
returns-clause-fits g c =
    let ends = c.ends.ensures.ends in
    least_fits c.args.t (g.V.View.boxes c.args.view.now) (g.V.View.outer c.args.view.now) c.ends.result.0 c.ends.result.1 c.least_of.result.value c.least_of.ensures
    (ap (λ (p : ℤ × ℤ). p.0) ends) (ap (λ (p : ℤ × ℤ). p.1) ends) c.ends.ensures.reach
