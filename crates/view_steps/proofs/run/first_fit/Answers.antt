use Rattle.std.proofs.Common.{◌≡◌, ◌<◌, ◌≤◌, List, false, length, get_or, sym, ap, ◌∙◌, subst}
use Rattle.view_steps.specs.Runs.{is_fit}
use Rattle.view_steps.specs.declared.moves.Move.{Move}
use Rattle.view_steps.proofs.ListLaws.{all_next, all_done}
use Rattle.view_steps.proofs.OrderLaws.{fits_at}
use Rattle.view_steps.proofs.run.first_fit.Goals as goal

pub returns-then-is_fit-clause-some : goal.returns-then-is_fit-clause-some
returns-then-is_fit-clause-some c =
    let n = c.loop-number.number in
    let same = c.deref-step-items.ensures.value in
    fits_at c.args.run.now n c.step-item.result
    (subst (λ (ms : List Move). n < length ms) same c.loop-number-test.true)
    (c.step-item.is ∙ ap (λ (ms : List Move). get_or ms n c.step-item.result) same)
    (sym c.is_fit.ensures ∙ c.if-is_fit.true)

pub loop-number-preserved : goal.loop-number-preserved
loop-number-preserved c =
    let n = c.loop-number.number in
    let same = c.deref-step-items.ensures.value in
    all_next (λ m. is_fit c.args.run.now.rooms.entries m ≡ false) c.args.run.now.left.items n
    c.step-item.result (subst (λ (ms : List Move). n < length ms) same c.loop-number-test.true)
    (c.step-item.is ∙ ap (λ (ms : List Move). get_or ms n c.step-item.result) same)
    (sym c.is_fit.ensures ∙ c.if-is_fit.false) c.loop-number.invariant

pub returns-clause-none : goal.returns-clause-none
returns-clause-none c =
    let n = c.loop-number.number in
    all_done (λ m. is_fit c.args.run.now.rooms.entries m ≡ false) c.args.run.now.left.items n
    (subst (λ (ms : List Move). length ms ≤ n) c.deref-step-items.ensures.value c.loop-number-test.false)
    c.loop-number.invariant
