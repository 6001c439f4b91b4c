use Rattle.std.proofs.Common.{◌+◌, ◌≤ℤ◌, pos, slice_index_or, refl, arith, subst}
use Rattle.std.proofs.lemmas.Int.{ints}
use Rattle.signed_clause.specs.Ranges.{Ranges}
use Rattle.ground_form.specs.Meaning.{value_of}
use Rattle.ground_form.specs.Bounds.{low_of}
use Rattle.ground_form.proofs.SingleValues.{box_single, load_left, size_left, sizes_left, load_step}
use Rattle.ground_form.proofs.truth.load_of.Goals as goal

pub with_item-sum-requires-clause-fits : goal.with_item-sum-requires-clause-fits
with_item-sum-requires-clause-fits c =
    let is = c.args.items.now in let a = c.args.values.now in let k = c.loop-i.i-index in let i = slice_index_or is k (0, 0, 0) in
    let there = c.requires.sizes k (0, 0, 0) c.loop-i-test.true in
    let size : pos 0 ≤ℤ value_of a i.1 = subst (λ (z : Ranges). pos 0 ≤ℤ low_of z) (box_single a i.1 there) (c.requires.bounded.sizes k (0, 0, 0) c.loop-i-test.true) in
    let s = size_left is a k i (0, 0, 0) c.loop-i-test.true refl there in
    let rest = sizes_left is a (k + 1) c.requires.sizes c.requires.bounded.sizes in
    omega (arith, ints, s, rest, size, c.loop-i.invariant.low, c.loop-i.invariant.high, c.requires.bounded.total)

pub loop-i-preserved : goal.loop-i-preserved
loop-i-preserved c =
    let is = c.args.items.now in let a = c.args.values.now in let k = c.loop-i.i-index in let i = slice_index_or is k (0, 0, 0) in
    let there = c.requires.sizes k (0, 0, 0) c.loop-i-test.true in
    let size : pos 0 ≤ℤ value_of a i.1 = subst (λ (z : Ranges). pos 0 ≤ℤ low_of z) (box_single a i.1 there) (c.requires.bounded.sizes k (0, 0, 0) c.loop-i-test.true) in
    let s = size_left is a k i (0, 0, 0) c.loop-i-test.true refl there in
    load_step (value_of a c.args.of) is a k i c.loop-i.sum.value c.with_item-sum.result.value (load_left (value_of a c.args.of) is a k i (0, 0, 0) c.loop-i-test.true refl) s size
    c.with_item-sum.ensures c.loop-i.invariant.value c.loop-i.invariant.low c.loop-i.invariant.high
