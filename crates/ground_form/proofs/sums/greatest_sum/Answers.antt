use Rattle.std.proofs.Common.{◌≡◌, ◌+ℤ◌, ℤ, pos, get_or, arith, ap, ◌∙◌}
use Rattle.std.proofs.lemmas.Int.{ints}
use Rattle.ground_form.specs.Bounds.{greatest_term}
use Rattle.ground_form.proofs.SingleValues.{abs_plus}
use Rattle.ground_form.proofs.Weights.{greatest_step, greatest_sum-drop}
use Rattle.ground_form.proofs.sums.greatest_sum.Goals as goal

pub loop-t-preserved : goal.loop-t-preserved
loop-t-preserved c =
    let ts = c.args.terms.now in let boxes = c.args.boxes.now in let i = c.loop-t.t-index in
    let e = greatest_sum-drop ts boxes i c.loop-t-test.true in
    let w = greatest_step ts boxes i c.loop-t-test.true in
    let x = greatest_term (get_or ts i (pos 0, 0)) boxes in
    let v : c.plus-sum.result.value ≡ c.loop-t.sum.value +ℤ x = c.plus-sum.ensures ∙ ap (λ (z : ℤ). c.loop-t.sum.value +ℤ z) c.greatest_term.ensures in
    let b = abs_plus c.loop-t.sum.value x in
    record { value = rw v (omega (arith, ints, e, c.loop-t.invariant.value)); fits = rw v (omega (arith, w, b, c.loop-t.invariant.fits)) }
