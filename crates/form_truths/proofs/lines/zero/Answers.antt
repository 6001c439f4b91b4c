use Rattle.std.proofs.Common.{Option, pos, sym, subst}
use Rattle.std.specs.Ordering.{int_eq}
use Rattle.form_truths.specs.declared.lines.Span.{Span}
use Rattle.form_truths.specs.Lines.{line_at, AreThose}
use Rattle.form_truths.proofs.Zeros.{no_below, no_above, zero_those}
use Rattle.form_truths.proofs.lines.zero.Goals as goal

pub returns-in_err-below : goal.returns-in_err-below
returns-in_err-below c =
    subst (λ (o : Option Span). AreThose c.args.s o (λ v. int_eq (line_at c.args.l v) (pos 0))) (sym c.from_residual.ensures)
    (no_below c.args.l c.turned-other.result c.args.s c.turned-other.ensures.factor c.turned-other.ensures.offset c.in_err-below.ensures)

pub returns-in_err-above : goal.returns-in_err-above
returns-in_err-above c =
    subst (λ (o : Option Span). AreThose c.args.s o (λ v. int_eq (line_at c.args.l v) (pos 0))) (sym c.from_residual-in_err-above.ensures)
    (no_above c.args.l c.turned-other.result c.args.s c.turned-other.ensures.factor c.turned-other.ensures.offset c.in_err-above.ensures)

pub returns : goal.returns
returns c =
    zero_those c.args.l c.turned-other.result c.args.s c.in_ok-below.below c.in_ok-above.above c.common-both.result c.turned-other.ensures.factor c.turned-other.ensures.offset
    c.in_ok-below.ensures c.in_ok-above.ensures c.common-both.ensures.some c.common-both.ensures.values c.common-both.ensures.none
