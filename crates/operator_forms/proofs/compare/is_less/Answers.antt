use Rattle.form_build.specs.Forms.{linear_at}
use Rattle.operator_forms.proofs.Differences.{less_of}
use Rattle.operator_forms.proofs.compare.is_less.Goals as goal

pub returns-clause-value : goal.returns-clause-value
returns-clause-value c a = less_of (linear_at c.args.f.now a) (linear_at c.args.g.now a) (linear_at c.in_ok-less.less a) (linear_at c.in_ok-more.more a) (c.in_ok-less.ensures.value a) (c.in_ok-more.ensures.value a)
