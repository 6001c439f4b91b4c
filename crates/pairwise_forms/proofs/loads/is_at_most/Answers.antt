use Rattle.std.proofs.Common.{◌∙◌}
use Rattle.form_build.specs.Forms.{linear_at}
use Rattle.pairwise_forms.proofs.LoadSteps.{at_most_of}
use Rattle.pairwise_forms.proofs.loads.is_at_most.Goals as goal

pub returns-clause-value : goal.returns-clause-value
returns-clause-value c a w = c.in_ok-t.ensures.value a w ∙ at_most_of (linear_at c.args.f.now a) (linear_at c.args.g.now a) (linear_at c.in_ok-less.less a) (c.in_ok-less.ensures.value a)
