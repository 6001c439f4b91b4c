use Rattle.std.proofs.Common.{rules, w64, unsigned_abs, ap, arith}
use Rattle.std.proofs.lemmas.Int.{ints, to_z-of_z}
use Rattle.form_build.specs.Sums.{linear_weight, IsLinear}
use Rattle.block_sums.proofs.OrderedSums.{sum_next, weight_next, there_at}
use Rattle.block_sums.proofs.ordered.ordered_sum.Goals as goal

pub with_term-requires-clause-exists : goal.with_term-requires-clause-exists
with_term-requires-clause-exists c =
    there_at _ c.args.terms.now c.loop-i.i c.term_at-t.result c.loop-i-test.true (c.term_at-t.ensures c.term_at-t.result) c.requires.exist

pub with_term-requires-clause-bounded : goal.with_term-requires-clause-bounded
with_term-requires-clause-bounded c =
    let boxes = c.args.b.now.domains in
    let next = weight_next c.args.terms.now c.loop-i.i c.term_at-t.result boxes c.loop-i-test.true (c.term_at-t.ensures c.term_at-t.result) in
    let before = c.loop-i.invariant.bounded in
    let same = ap unsigned_abs (to_z-of_z w64 c.args.offset (search rules)) in
    omega (arith, next, before, same, c.requires.bounded)

pub with_term-requires-clause-sum : goal.with_term-requires-clause-sum
with_term-requires-clause-sum c =
    let before = c.loop-i.invariant.bounded in
    let same = ap unsigned_abs (to_z-of_z w64 c.args.offset (search rules)) in
    record { terms = c.loop-i.invariant.terms; bounded = omega (arith, before, same, c.requires.bounded) }

pub loop-i-preserved : goal.loop-i-preserved
loop-i-preserved c =
    let boxes = c.args.b.now.domains in
    let i = c.loop-i.i in
    let t = c.term_at-t.result in
    let lt = c.loop-i-test.true in
    let is = c.term_at-t.ensures t in
    let before = c.loop-i.invariant in
    let more = c.in_ok-sum.ensures in
    let old : IsLinear (linear_weight c.loop-i.sum boxes) boxes c.loop-i.sum = record { terms = before.terms; bounded = omega arith } in
    let linear = more.linear (linear_weight c.loop-i.sum boxes) old in
    record {
      value = λ a w.
          let one = more.value a w in
          let next = sum_next c.args.terms.now i t a lt is in
          let whole = before.value a w in
          omega (arith, ints, one, next, whole);
      terms = linear.terms;
      bounded =
          let one = linear.bounded in
          let next = weight_next c.args.terms.now i t boxes lt is in
          let whole = before.bounded in
          omega (arith, one, next, whole);
    }
