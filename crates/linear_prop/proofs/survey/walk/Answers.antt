use Rattle.std.proofs.Common.{◌≡◌, ◌<◌, ◌-ℤ◌, ℕ, ℤ, pos, get_or, length, arith, ap, sym, ◌∙◌}
use Rattle.std.proofs.lemmas.Int.{ints, clamps}
use Rattle.linear_prop.specs.Rows.{terms_of, spread_of}
use Rattle.linear_prop.proofs.WalkSteps.{spread_some, value_step, fits_step, term_fits, low_fits, high_fits, rise_is, spread_step, some_step, index_step, widest_step}
use Rattle.linear_prop.proofs.survey.walk.Goals as goal

pub loop-i-init : goal.loop-i-init
loop-i-init c =
    let some = spread_some (terms_of c.args.row.now) c.args.boxes.now in
    let one = c.of.ensures in let two = c.of-2.ensures in
    record {
      value = omega (arith, ints);
      fits = omega (arith, ints);
      spread = omega (arith, ints, clamps);
      some = omega (arith, ints);
      index = λ h. absurd (omega (arith, ints));
      widest = λ h. absurd (omega (arith, ints));
    }

pub term_ends-requires-clause-fits : goal.term_ends-requires-clause-fits
term_ends-requires-clause-fits c =
    let n = c.len-i-end.ensures in let t = c.loop-i-test.true in
    let lt : c.loop-i.i < length (terms_of c.args.row.now) = omega arith in
    let w = term_fits (terms_of c.args.row.now) c.args.boxes.now c.loop-i.i c.term.result c.loop-i.found.least.value _ lt (c.term.ensures.term (pos 0, 0)) c.loop-i.invariant.fits in
    let h = c.requires.fits in omega arith

pub with-found-requires-clause-low : goal.with-found-requires-clause-low
with-found-requires-clause-low c =
    let n = c.len-i-end.ensures in let t = c.loop-i-test.true in
    let lt : c.loop-i.i < length (terms_of c.args.row.now) = omega arith in
    let w = term_fits (terms_of c.args.row.now) c.args.boxes.now c.loop-i.i c.term.result c.loop-i.found.least.value _ lt (c.term.ensures.term (pos 0, 0)) c.loop-i.invariant.fits in
    let h = c.requires.fits in low_fits c.term.result c.args.boxes.now _ _ c.term_ends.ensures.least (omega arith)

pub with-found-requires-clause-high : goal.with-found-requires-clause-high
with-found-requires-clause-high c =
    let n = c.len-i-end.ensures in let t = c.loop-i-test.true in
    let lt : c.loop-i.i < length (terms_of c.args.row.now) = omega arith in
    let w = term_fits (terms_of c.args.row.now) c.args.boxes.now c.loop-i.i c.term.result c.loop-i.found.least.value _ lt (c.term.ensures.term (pos 0, 0)) c.loop-i.invariant.fits in
    let h = c.requires.fits in high_fits c.term.result c.args.boxes.now _ _ c.term_ends.ensures.greatest (omega arith)

pub loop-i-preserved : goal.loop-i-preserved
loop-i-preserved c =
    let ts = terms_of c.args.row.now in let boxes = c.args.boxes.now in let i = c.loop-i.i in
    let n = c.len-i-end.ensures in let t = c.loop-i-test.true in
    let lt : i < length ts = omega arith in
    let e : c.term.result ≡ get_or ts i (pos 0, 0) = c.term.ensures.term (pos 0, 0) in
    let x = c.term_ends.result.1.value -ℤ c.term_ends.result.0.value in
    let is : x ≡ spread_of c.term.result boxes = rise_is c.term.result boxes _ _ c.term_ends.ensures.least c.term_ends.ensures.greatest in
    let at : spread_of (get_or ts i (pos 0, 0)) boxes ≡ x = sym (is ∙ ap (λ (z : ℤ × ℕ). spread_of z boxes) e) in
    record {
      value = value_step ts boxes i c.term.result c.loop-i.found.least.value c.term_ends.result.0.value _ _ lt e c.term_ends.ensures.least c.with-found.ensures.least c.loop-i.invariant.value;
      fits = fits_step ts boxes i c.term.result c.loop-i.found.least.value c.term_ends.result.0.value _ _ lt e c.term_ends.ensures.least c.with-found.ensures.least c.loop-i.invariant.fits;
      spread = spread_step ts boxes i c.term.result c.loop-i.found.spread.value x _ _ lt e is c.with-found.ensures.spread c.loop-i.invariant.spread;
      some = some_step c.loop-i.found.spread.value x _ c.with-found.ensures.spread c.loop-i.invariant.some;
      index = index_step c.loop-i.found.spread.value x _ i c.loop-i.found.index _ c.with-found.ensures.spread c.with-found.ensures.index c.loop-i.invariant.index;
      widest = widest_step (λ (k : ℕ). spread_of (get_or ts k (pos 0, 0)) boxes) c.loop-i.found.spread.value x _ i c.loop-i.found.index _ at c.with-found.ensures.spread c.with-found.ensures.index c.loop-i.invariant.widest;
    }
