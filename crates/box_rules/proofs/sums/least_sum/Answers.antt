use Rattle.std.proofs.Common.{◌≡◌, ◌+ℤ◌, pos, get_or, arith}
use Rattle.std.proofs.lemmas.Int.{ints}
use Rattle.ground_form.specs.Bounds.{least_term}
use Rattle.ground_form.proofs.SingleValues.{abs_plus}
use Rattle.ground_form.proofs.Weights.{least_sum-drop}
use Rattle.box_rules.proofs.SumSteps.{weight_left}
use Rattle.box_rules.proofs.sums.least_sum.Goals as goal

pub least_term-requires-clause-fits : goal.least_term-requires-clause-fits
least_term-requires-clause-fits g c =
    let w = weight_left c.args.terms.now (g.V.View.outer c.args.view.now) c.loop-t.t-index c.loop-t-test.true in
    omega (arith, w, c.loop-t.invariant.fits, c.requires.fits)

pub plus-sum-requires : goal.plus-sum-requires
plus-sum-requires g c =
    let w = weight_left c.args.terms.now (g.V.View.outer c.args.view.now) c.loop-t.t-index c.loop-t-test.true in
    omega (arith, w, c.least_term.ensures.fits, c.loop-t.invariant.fits, c.requires.fits)

pub loop-t-preserved : goal.loop-t-preserved
loop-t-preserved g c =
    let ts = c.args.terms.now in let boxes = g.V.View.boxes c.args.view.now in let i = c.loop-t.t-index in
    let e = least_sum-drop ts boxes i c.loop-t-test.true in
    let w = weight_left ts (g.V.View.outer c.args.view.now) i c.loop-t-test.true in
    let x = least_term (get_or ts i (pos 0, 0)) boxes in
    let v : c.plus-sum.result.value ≡ c.loop-t.sum.value +ℤ c.least_term.result.value = c.plus-sum.ensures in
    let is : c.least_term.result.value ≡ x = c.least_term.ensures.value in
    let b = abs_plus c.loop-t.sum.value c.least_term.result.value in
    record { value = rw v (omega (arith, ints, e, is, c.loop-t.invariant.value)); fits = rw v (omega (arith, w, b, c.least_term.ensures.fits, c.loop-t.invariant.fits)) }
