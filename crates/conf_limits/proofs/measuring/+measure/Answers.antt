use Rattle.std.proofs.Common.{◌+◌, drop, ap, sym, subst, arith}
use Rattle.conf_types.specs.declared.tree.RExpr.{RExpr}
use Rattle.conf_types.specs.declared.tree.RQuant as quant
use Rattle.conf_types.specs.TreeOf.{node_tree, quant_tree, tree_of, trees_of, optional_tree}
use Rattle.conf_limits.specs.Limits.{size, bodies_size, IsMeasure, IsFilterMeasure, IsBodiesMeasure, IsThere, AreBodiesThere}
use Rattle.conf_limits.proofs.BodyLaws.{quant_is, quant_size, quant_there, there_quant, next_trees, no_more, step, done}
use Rattle.conf_limits.proofs.measuring.+measure.Goals as goal

pub measured-returns-in-Number : goal.measured-returns-in-Number
measured-returns-in-Number t c = record { measure = subst (λ n. IsMeasure c.literal.result c.args.all.now (node_tree n c.args.expr.now.at)) (sym c.in-Number.is) (c.literal.ensures.measure c.args.all.now c.args.expr.now.at) }

pub measured-returns-in-Dot : goal.measured-returns-in-Dot
measured-returns-in-Dot t c =
    let o = c.args.all.now in
    let at = c.args.expr.now.at in
    let part = subst (λ (e : RExpr). IsMeasure c.measured.result o (tree_of e)) c.deref.ensures c.measured.ensures.measure in
    record { measure = subst (λ n. IsMeasure c.dot.result o (node_tree n at)) (sym c.in-Dot.is) (c.dot.ensures.measure at c.in-Dot.field-1 (tree_of c.in-Dot.owner.value) part) }

pub measured-returns-in-Paren : goal.measured-returns-in-Paren
measured-returns-in-Paren t c =
    let o = c.args.all.now in
    let at = c.args.expr.now.at in
    let part = subst (λ (e : RExpr). IsMeasure c.measured-in-Paren.result o (tree_of e)) c.deref-in-Paren.ensures c.measured-in-Paren.ensures.measure in
    record { measure = subst (λ n. IsMeasure c.paren.result o (node_tree n at)) (sym c.in-Paren.is) (c.paren.ensures.measure o at (tree_of c.in-Paren.inner.value) part) }

pub measured-returns-in-Minus : goal.measured-returns-in-Minus
measured-returns-in-Minus t c =
    let o = c.args.all.now in
    let at = c.args.expr.now.at in
    let part = subst (λ (e : RExpr). IsMeasure c.measured-in-Minus.result o (tree_of e)) c.deref-in-Minus.ensures c.measured-in-Minus.ensures.measure in
    record { measure = subst (λ n. IsMeasure c.minus.result o (node_tree n at)) (sym c.in-Minus.is) (c.minus.ensures.measure o at (tree_of c.in-Minus.inner.value) part) }

pub measured-returns-in-Not : goal.measured-returns-in-Not
measured-returns-in-Not t c =
    let o = c.args.all.now in
    let at = c.args.expr.now.at in
    let part = subst (λ (e : RExpr). IsMeasure c.measured-in-Not.result o (tree_of e)) c.deref-in-Not.ensures c.measured-in-Not.ensures.measure in
    record { measure = subst (λ n. IsMeasure c.negation.result o (node_tree n at)) (sym c.in-Not.is) (c.negation.ensures.measure o at (tree_of c.in-Not.inner.value) part) }

pub measured-returns-in-Pair : goal.measured-returns-in-Pair
measured-returns-in-Pair t c =
    let o = c.args.all.now in
    let at = c.args.expr.now.at in
    let l = subst (λ (e : RExpr). IsMeasure c.measured-in-Pair.result o (tree_of e)) c.deref-in-Pair.ensures c.measured-in-Pair.ensures.measure in
    let r = subst (λ (e : RExpr). IsMeasure c.measured-in-Pair-2.result o (tree_of e)) c.deref-in-Pair-2.ensures c.measured-in-Pair-2.ensures.measure in
    record { measure = subst (λ n. IsMeasure c.pair.result o (node_tree n at)) (sym c.in-Pair.is) (c.pair.ensures.measure o at (tree_of c.in-Pair.left.value) (tree_of c.in-Pair.right.value) l r) }

pub measured-measure_quant-requires : goal.measured-measure_quant-requires
measured-measure_quant-requires t c =
    let o = c.args.all.now in
    let at = c.args.expr.now.at in
    let q = c.in-Quant.quant.value in
    let d = c.decreases in
    let is = ap (λ n. node_tree n at) c.in-Quant.is in
    let here = ap (λ (x : quant.RQuant). size (quant_tree x 0)) c.deref-in-Quant.ensures in
    let whole = ap size is in
    let one = quant_size q 0 in
    let other = quant_size q at in
    let there = subst (IsThere o) is c.requires.there in
    (omega (arith, d, here, whole, one, other), λ n. subst (λ (x : quant.RQuant). IsThere o (quant_tree x n)) (sym c.deref-in-Quant.ensures) (there_quant o q at n there))

pub measure_quant-measured-over-requires : goal.measure_quant-measured-over-requires
measure_quant-measured-over-requires t c =
    let d = c.decreases in
    let s = quant_size c.args.quant.now 0 in
    (omega (arith, d, s), (quant_there c.args.all.now c.args.quant.now 0 (c.requires.there 0)).0)

pub measure_quant-measure_filter-filter-requires : goal.measure_quant-measure_filter-filter-requires
measure_quant-measure_filter-filter-requires t c =
    let d = c.decreases in
    let s = quant_size c.args.quant.now 0 in
    (omega (arith, d, s), (quant_there c.args.all.now c.args.quant.now 0 (c.requires.there 0)).1.0)

pub measure_quant-measure_bodies-bodies-requires : goal.measure_quant-measure_bodies-bodies-requires
measure_quant-measure_bodies-bodies-requires t c =
    let d = c.decreases in
    let s = quant_size c.args.quant.now 0 in
    let same = ap trees_of c.deref.ensures.value in
    let sizes = ap bodies_size same in
    (omega (arith, d, s, sizes), subst (AreBodiesThere c.args.all.now) (sym same) (quant_there c.args.all.now c.args.quant.now 0 (c.requires.there 0)).1.1)

pub measure_quant-returns : goal.measure_quant-returns
measure_quant-returns t c =
    let o = c.args.all.now in
    let q = quant.out-RQuant c.args.quant.now in
    let found = c.measure_bodies-bodies.result in
    let some = subst (λ bs. IsBodiesMeasure found o c.summed.result bs) (ap trees_of c.deref.ensures.value) c.measure_bodies-bodies.ensures.measure in
    let bodies = subst (λ k. IsBodiesMeasure found o k (trees_of q.body.items)) c.summed.ensures some in
    record { measure = λ at. subst (IsMeasure c.quantifier.result o) (sym (quant_is c.args.quant.now at)) (c.quantifier.ensures.measure o at (tree_of q.over) (optional_tree q.filter) (trees_of q.body.items) c.measured-over.ensures.measure c.measure_filter-filter.ensures.measure bodies) }

pub measure_filter-returns-in-None : goal.measure_filter-returns-in-None
measure_filter-returns-in-None t c =
    let o = c.args.all.now in
    record { measure = subst (λ f. IsFilterMeasure c.no_filter.result o (optional_tree f)) (sym c.in-None.is) (c.no_filter.ensures.measure o) }

pub measure_bodies-measured-requires : goal.measure_bodies-measured-requires
measure_bodies-measured-requires t c =
    let o = c.args.all.now in
    let d = c.decreases in
    let small = c.loop-k.invariant.small in
    let is = next_trees c.args.body.now c.loop-k.k c.index-body-k.result c.loop-k-test.true c.index-body-k.is in
    let sizes = ap bodies_size is in
    (omega (arith, d, small, sizes), (subst (AreBodiesThere o) is c.loop-k.invariant.there).0)

pub measure_bodies-loop-k-preserved : goal.measure_bodies-loop-k-preserved
measure_bodies-loop-k-preserved t c =
    let o = c.args.all.now in
    let body = c.args.body.now in
    let k = c.loop-k.k in
    let is = next_trees body k c.index-body-k.result c.loop-k-test.true c.index-body-k.is in
    step o c.args.wanted k c.loop-k.found c.with_body-found.result c.measured.result (tree_of c.index-body-k.result) (trees_of (drop k body)) (trees_of (drop (k + 1) body)) (trees_of body) is c.loop-k.invariant c.measured.ensures.measure c.with_body-found.ensures.weight c.with_body-found.ensures.interval

pub measure_bodies-returns : goal.measure_bodies-returns
measure_bodies-returns t c =
    let body = c.args.body.now in
    record { measure = done c.args.all.now c.args.wanted c.loop-k.k c.loop-k.found (trees_of (drop c.loop-k.k body)) (trees_of body) (no_more body c.loop-k.k c.loop-k-test.false) c.loop-k.invariant }
