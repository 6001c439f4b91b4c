use Rattle.std.proofs.Common.{◌∙◌, sym}
use Rattle.form_truths.proofs.Zeros.{common_span, no_common}
use Rattle.form_truths.proofs.lines.common.Goals as goal

pub returns-then-has_value-clause-values : goal.returns-then-has_value-clause-values
returns-then-has_value-clause-values c v = common_span c.args.r c.args.t c.inner-u.result v c.inner-u.ensures.low c.inner-u.ensures.high

pub returns-else-has_value-clause-none : goal.returns-else-has_value-clause-none
returns-else-has_value-clause-none c v = sym (common_span c.args.r c.args.t c.inner-u.result v c.inner-u.ensures.low c.inner-u.ensures.high) ∙ no_common c.inner-u.result v (sym c.has_value.ensures ∙ c.if-has_value.false)
