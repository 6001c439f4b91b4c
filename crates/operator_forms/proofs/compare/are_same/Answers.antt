use Rattle.std.proofs.Common.{Bool, ap}
use Rattle.form_build.specs.Forms.{linear_at}
use Rattle.form_truths.specs.Tests.{wanted}
use Rattle.operator_forms.proofs.Differences.{same_of}
use Rattle.operator_forms.proofs.compare.are_same.Goals as goal

pub returns-clause-value : goal.returns-clause-value
returns-clause-value c a = ap (λ (b : Bool). wanted c.args.want b) (same_of (linear_at c.args.f.now a) (linear_at c.args.g.now a) (linear_at c.in_ok-less.less a) (c.in_ok-less.ensures.value a))
