use Rattle.std.proofs.Common.{◌≡◌, ℤ, pos, unsigned_abs, arith, sym, subst, ◌∙◌, true}
use Rattle.std.specs.Prelude.{int_le}
use Rattle.std.proofs.lemmas.Int.{ints}
use Rattle.form_truths.specs.Lines.{line_at}
use Rattle.form_truths.proofs.Roots.{steps_from, test_holds, test_fails, rising_all, rising_none, rising_some}
use Rattle.form_truths.proofs.lines.below_rising.Goals as goal

pub returns-then-is_low : goal.returns-then-is_low
returns-then-is_low c =
    let low : int_le c.at_high-top.result.value (pos 0) ≡ true = sym c.is_low.ensures ∙ c.if-is_low.true in
    let value : c.at_high-top.result.value ≡ line_at c.args.l c.args.s.high = c.at_high-top.ensures.value in
    rising_all c.args.l c.args.s c.requires.up c.requires.span (test_holds (line_at c.args.l c.args.s.high) (subst (λ (z : ℤ). int_le z (pos 0) ≡ true) value low))

pub steps-n-requires-clause-some : goal.steps-n-requires-clause-some
steps-n-requires-clause-some c = test_fails c.at_high-top.result.value (sym c.is_low.ensures ∙ c.if-is_low.false)

pub returns-then-n-width : goal.returns-then-n-width
returns-then-n-width c =
    let width = c.width.ensures in let more = c.if-n-width.true in
    rising_none c.args.l c.args.s c.steps-n.result c.requires.up
    (steps_from c.at_high-top.result.value (line_at c.args.l c.args.s.high) c.size.result (unsigned_abs c.args.l.factor) c.steps-n.result c.at_high-top.ensures.value c.size.ensures (sym c.is_low.ensures ∙ c.if-is_low.false) c.steps-n.ensures.enough c.steps-n.ensures.few) (omega (arith, ints, width, more))

pub returns : goal.returns
returns c =
    let width = c.width.ensures in let no_more = c.if-n-width.false in
    rising_some c.args.l c.args.s c.lowered.result c.steps-n.result c.requires.up
    (steps_from c.at_high-top.result.value (line_at c.args.l c.args.s.high) c.size.result (unsigned_abs c.args.l.factor) c.steps-n.result c.at_high-top.ensures.value c.size.ensures (sym c.is_low.ensures ∙ c.if-is_low.false) c.steps-n.ensures.enough c.steps-n.ensures.few) (omega (arith, ints, width, no_more)) c.lowered.ensures.low c.lowered.ensures.high
