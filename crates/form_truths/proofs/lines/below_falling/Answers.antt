use Rattle.std.proofs.Common.{◌≡◌, ℤ, pos, unsigned_abs, arith, sym, subst, ◌∙◌, true}
use Rattle.std.specs.Prelude.{int_le}
use Rattle.std.proofs.lemmas.Int.{ints}
use Rattle.form_truths.specs.Lines.{line_at}
use Rattle.form_truths.proofs.Roots.{steps_from, test_holds, test_fails, falling_all, falling_none, falling_some}
use Rattle.form_truths.proofs.lines.below_falling.Goals as goal

pub returns-then-is_low : goal.returns-then-is_low
returns-then-is_low c =
    let low : int_le c.at_low-top.result.value (pos 0) ≡ true = sym c.is_low.ensures ∙ c.if-is_low.true in
    let value : c.at_low-top.result.value ≡ line_at c.args.l c.args.s.low = c.at_low-top.ensures.value in
    falling_all c.args.l c.args.s c.requires.down c.requires.span (test_holds (line_at c.args.l c.args.s.low) (subst (λ (z : ℤ). int_le z (pos 0) ≡ true) value low))

pub steps-n-requires-clause-some : goal.steps-n-requires-clause-some
steps-n-requires-clause-some c = test_fails c.at_low-top.result.value (sym c.is_low.ensures ∙ c.if-is_low.false)

pub returns-then-n-width : goal.returns-then-n-width
returns-then-n-width c =
    let width = c.width.ensures in let more = c.if-n-width.true in
    falling_none c.args.l c.args.s c.steps-n.result c.requires.down
    (steps_from c.at_low-top.result.value (line_at c.args.l c.args.s.low) c.size.result (unsigned_abs c.args.l.factor) c.steps-n.result c.at_low-top.ensures.value c.size.ensures (sym c.is_low.ensures ∙ c.if-is_low.false) c.steps-n.ensures.enough c.steps-n.ensures.few) (omega (arith, ints, width, more))

pub returns : goal.returns
returns c =
    let width = c.width.ensures in let no_more = c.if-n-width.false in
    falling_some c.args.l c.args.s c.raised.result c.steps-n.result c.requires.down
    (steps_from c.at_low-top.result.value (line_at c.args.l c.args.s.low) c.size.result (unsigned_abs c.args.l.factor) c.steps-n.result c.at_low-top.ensures.value c.size.ensures (sym c.is_low.ensures ∙ c.if-is_low.false) c.steps-n.ensures.enough c.steps-n.ensures.few) (omega (arith, ints, width, no_more)) c.raised.ensures.low c.raised.ensures.high
