use Rattle.std.proofs.Common.{◌≡◌, ◌*◌, ◌+ℤ◌, ◌*ℤ◌, ℤ, pos, unsigned_abs, slice_index_or, refl, arith, ap, ◌∙◌}
use Rattle.std.proofs.lemmas.Int.{ints, unsigned_abs-mul}
use Rattle.ground_form.specs.Meaning.{value_of}
use Rattle.ground_form.proofs.SingleValues.{sum_left, weight_left, abs_plus}
use Rattle.ground_form.proofs.truth.sum_of.Goals as goal

pub term_at-requires-clause-fits : goal.term_at-requires-clause-fits
term_at-requires-clause-fits c =
    let ts = c.args.terms.now in let i = c.loop-t.t-index in let t = slice_index_or ts i (pos 0, 0) in
    let w = weight_left ts c.args.values.now i t (pos 0, 0) c.loop-t-test.true refl (c.requires.variables i (pos 0, 0) c.loop-t-test.true) in
    omega (arith, w, c.loop-t.invariant.fits, c.requires.fits)

pub plus-sum-requires : goal.plus-sum-requires
plus-sum-requires c =
    let ts = c.args.terms.now in let i = c.loop-t.t-index in let t = slice_index_or ts i (pos 0, 0) in
    let w = weight_left ts c.args.values.now i t (pos 0, 0) c.loop-t-test.true refl (c.requires.variables i (pos 0, 0) c.loop-t-test.true) in
    let term = c.term_at.ensures in
    let size : unsigned_abs c.term_at.result.value ≡ unsigned_abs t.0 * unsigned_abs (value_of c.args.values.now t.1) = ap unsigned_abs term ∙ unsigned_abs-mul t.0 (value_of c.args.values.now t.1) in
    omega (arith, w, size, c.loop-t.invariant.fits, c.requires.fits)

pub loop-t-preserved : goal.loop-t-preserved
loop-t-preserved c =
    let ts = c.args.terms.now in let a = c.args.values.now in let i = c.loop-t.t-index in let t = slice_index_or ts i (pos 0, 0) in
    let w = weight_left ts a i t (pos 0, 0) c.loop-t-test.true refl (c.requires.variables i (pos 0, 0) c.loop-t-test.true) in
    let e = sum_left ts a i t (pos 0, 0) c.loop-t-test.true refl in
    let x = t.0 *ℤ value_of a t.1 in
    let size : unsigned_abs x ≡ unsigned_abs t.0 * unsigned_abs (value_of a t.1) = unsigned_abs-mul t.0 (value_of a t.1) in
    let v : c.plus-sum.result.value ≡ c.loop-t.sum.value +ℤ x = c.plus-sum.ensures ∙ ap (λ (z : ℤ). c.loop-t.sum.value +ℤ z) c.term_at.ensures in
    let b = abs_plus c.loop-t.sum.value x in
    record { value = rw v (omega (arith, ints, e, c.loop-t.invariant.value)); fits = rw v (omega (arith, w, b, size, c.loop-t.invariant.fits)) }
