use Rattle.std.proofs.Common.{◌≡◌, ◌<◌, ◌+◌, ◌+ℤ◌, ℕ, sym, ap, ◌∙◌, subst, arith, drop, length, map, true, false, pos}
use Rattle.std.specs.Prelude.{count_by}
use Rattle.conf_syntax.specs.declared.tree.QuantKind.TheVariants as kind
use Rattle.conf_types.specs.TreeOf.{tree_of, node_tree, quant_tree, optional_tree, trees_of}
use Rattle.conf_types.specs.Trees as tree
use Rattle.conf_types.specs.declared.tree.RQuant as quant
use Rattle.std.proofs.lemmas.Result.{IfOk-weaker}
use Rattle.object_alloc.specs.Walk.{objects}
use Rattle.conf_eval.specs.declared.value.Value.TheVariants.{Int, Truth}
use Rattle.conf_eval.specs.Evaluating.{AllEvaluable, IsInner, setting_at, holds, term_of, height}
use Rattle.conf_eval.specs.Fitting.{IsEvaluable, IsEvaluableFilter, IsNarrow}
use Rattle.conf_eval.specs.Listing.{slots, held, members}
use Rattle.conf_eval.specs.Meaning.{value, bind, keeps, values_of, first_of, item_of, int_of, objects_of, quantified, total, all_differ, fits_all}
use Rattle.conf_eval.specs.Packing.{item_view}
use Rattle.conf_eval.proofs.EvalLaws.{pair, dot, own, quant_is, quant_takes, quant_moved, quant_value, quant_height, inner_here, inner_next, member_here, quant_inner, quant_bodies, rest_narrow, items_narrow, nth_evaluable, nth_low, nth_number, all_step, any_step, count_step, push_step, at_most_one, mapped_push, counts_are, no_number, no_list}
use Rattle.conf_eval.proofs.LawsNarrow.{value_narrow}
use Rattle.conf_eval.proofs.ListingLaws.{extent_held}
use Rattle.conf_eval.proofs.PackingLaws.{small_step, sum_step}
use Rattle.conf_eval.proofs.evaluate.+eval.Goals as goal

pub forall_at-holds_at-requires : goal.forall_at-holds_at-requires
forall_at-holds_at-requires t c =
    let o = c.args.scene.now.objects.now in
    let vs = c.args.scene.now.values.now in
    let s = setting_at c.args.scene.now c.args.vars.now in
    let f = optional_tree c.args.filter.now in
    let bs = trees_of c.args.body.now in
    let ss = slots o vs c.args.list.now in
    let i = c.loop-i.i in
    let within : i < length ss = omega (arith, c.loop-i-test.true, c.slot_count-i-end.ensures.count) in
    let is = sym c.in-Some.ensures.slot in
    let x = c.in-Some.x in
    let here = member_here ss i within x is in
    let set = c.set_last.ensures.set c.args.vars.now c.loop-i.invariant.room in
    let same = sym (ap (setting_at c.args.scene.now) (c.deref.ensures.value ∙ set)) in
    let ok = inner_here ss i within (λ y. IsInner o vs f bs (bind s y)) x is c.loop-i.invariant.inner in
    (omega (arith, c.decreases), (c.requires.given, (subst (λ y. IsEvaluableFilter o vs f y) same ok.filter, subst (λ y. AllEvaluable o vs bs y) same ok.bodies)))

pub exists_at-holds_at-requires : goal.exists_at-holds_at-requires
exists_at-holds_at-requires t c =
    let o = c.args.scene.now.objects.now in
    let vs = c.args.scene.now.values.now in
    let s = setting_at c.args.scene.now c.args.vars.now in
    let f = optional_tree c.args.filter.now in
    let bs = trees_of c.args.body.now in
    let ss = slots o vs c.args.list.now in
    let i = c.loop-i.i in
    let within : i < length ss = omega (arith, c.loop-i-test.true, c.slot_count-i-end.ensures.count) in
    let is = sym c.in-Some.ensures.slot in
    let x = c.in-Some.x in
    let here = member_here ss i within x is in
    let set = c.set_last.ensures.set c.args.vars.now c.loop-i.invariant.room in
    let same = sym (ap (setting_at c.args.scene.now) (c.deref.ensures.value ∙ set)) in
    let ok = inner_here ss i within (λ y. IsInner o vs f bs (bind s y)) x is c.loop-i.invariant.inner in
    (omega (arith, c.decreases), (c.requires.given, (subst (λ y. IsEvaluableFilter o vs f y) same ok.filter, subst (λ y. AllEvaluable o vs bs y) same ok.bodies)))

pub count_at-holds_at-requires : goal.count_at-holds_at-requires
count_at-holds_at-requires t c =
    let o = c.args.scene.now.objects.now in
    let vs = c.args.scene.now.values.now in
    let s = setting_at c.args.scene.now c.args.vars.now in
    let f = optional_tree c.args.filter.now in
    let bs = trees_of c.args.body.now in
    let ss = slots o vs c.args.list.now in
    let i = c.loop-i.i in
    let within : i < length ss = omega (arith, c.loop-i-test.true, c.slot_count-i-end.ensures.count) in
    let is = sym c.in-Some.ensures.slot in
    let x = c.in-Some.x in
    let here = member_here ss i within x is in
    let set = c.set_last.ensures.set c.args.vars.now c.loop-i.invariant.room in
    let same = sym (ap (setting_at c.args.scene.now) (c.deref.ensures.value ∙ set)) in
    let ok = inner_here ss i within (λ y. IsInner o vs f bs (bind s y)) x is c.loop-i.invariant.inner in
    (omega (arith, c.decreases), (c.requires.given, (subst (λ y. IsEvaluableFilter o vs f y) same ok.filter, subst (λ y. AllEvaluable o vs bs y) same ok.bodies)))

pub sum_at-term_at-requires : goal.sum_at-term_at-requires
sum_at-term_at-requires t c =
    let o = c.args.scene.now.objects.now in
    let vs = c.args.scene.now.values.now in
    let s = setting_at c.args.scene.now c.args.vars.now in
    let f = optional_tree c.args.filter.now in
    let bs = trees_of c.args.body.now in
    let ss = slots o vs c.args.list.now in
    let i = c.loop-i.i in
    let within : i < length ss = omega (arith, c.loop-i-test.true, c.slot_count-i-end.ensures.count) in
    let is = sym c.in-Some.ensures.slot in
    let x = c.in-Some.x in
    let here = member_here ss i within x is in
    let set = c.set_last.ensures.set c.args.vars.now c.loop-i.invariant.room in
    let same = sym (ap (setting_at c.args.scene.now) (c.deref.ensures.value ∙ set)) in
    let ok = inner_here ss i within (λ y. IsInner o vs f bs (bind s y)) x is c.loop-i.invariant.inner in
    (omega (arith, c.decreases), (c.requires.given, (subst (λ y. IsEvaluableFilter o vs f y) same ok.filter, subst (λ y. AllEvaluable o vs bs y) same ok.bodies)))

pub forall_at-loop-i-preserved : goal.forall_at-loop-i-preserved
forall_at-loop-i-preserved t c =
    let o = c.args.scene.now.objects.now in
    let vs = c.args.scene.now.values.now in
    let s = setting_at c.args.scene.now c.args.vars.now in
    let f = optional_tree c.args.filter.now in
    let bs = trees_of c.args.body.now in
    let ss = slots o vs c.args.list.now in
    let i = c.loop-i.i in
    let within : i < length ss = omega (arith, c.loop-i-test.true, c.slot_count-i-end.ensures.count) in
    let is = sym c.in-Some.ensures.slot in
    let x = c.in-Some.x in
    let here = member_here ss i within x is in
    let set = c.set_last.ensures.set c.args.vars.now c.loop-i.invariant.room in
    let same = sym (ap (setting_at c.args.scene.now) (c.deref.ensures.value ∙ set)) in
    let test = λ (y : ℕ). holds f bs true (bind s y) in
    let yes : test x ≡ true = ap (λ y. holds f bs true y) same ∙ sym c.in_ok-holds_at.ensures.holds ∙ c.if-not-branch.false in
    record {
      room = record { last = x; is = set };
      inner = inner_next ss i within (λ y. IsInner o vs f bs (bind s y)) x is c.loop-i.invariant.inner;
      rest = all_step test x (held (drop i ss)) (held (drop (i + 1) ss)) _ here yes c.loop-i.invariant.rest;
    }

pub exists_at-loop-i-preserved : goal.exists_at-loop-i-preserved
exists_at-loop-i-preserved t c =
    let o = c.args.scene.now.objects.now in
    let vs = c.args.scene.now.values.now in
    let s = setting_at c.args.scene.now c.args.vars.now in
    let f = optional_tree c.args.filter.now in
    let bs = trees_of c.args.body.now in
    let ss = slots o vs c.args.list.now in
    let i = c.loop-i.i in
    let within : i < length ss = omega (arith, c.loop-i-test.true, c.slot_count-i-end.ensures.count) in
    let is = sym c.in-Some.ensures.slot in
    let x = c.in-Some.x in
    let here = member_here ss i within x is in
    let set = c.set_last.ensures.set c.args.vars.now c.loop-i.invariant.room in
    let same = sym (ap (setting_at c.args.scene.now) (c.deref.ensures.value ∙ set)) in
    let test = λ (y : ℕ). holds f bs false (bind s y) in
    let no : test x ≡ false = ap (λ y. holds f bs false y) same ∙ sym c.in_ok-holds_at.ensures.holds ∙ c.if-branch.false in
    record {
      room = record { last = x; is = set };
      inner = inner_next ss i within (λ y. IsInner o vs f bs (bind s y)) x is c.loop-i.invariant.inner;
      rest = any_step test x (held (drop i ss)) (held (drop (i + 1) ss)) _ here no c.loop-i.invariant.rest;
    }

pub count_at-loop-i-preserved : goal.count_at-loop-i-preserved
count_at-loop-i-preserved t c =
    let o = c.args.scene.now.objects.now in
    let vs = c.args.scene.now.values.now in
    let s = setting_at c.args.scene.now c.args.vars.now in
    let f = optional_tree c.args.filter.now in
    let bs = trees_of c.args.body.now in
    let ss = slots o vs c.args.list.now in
    let i = c.loop-i.i in
    let within : i < length ss = omega (arith, c.loop-i-test.true, c.slot_count-i-end.ensures.count) in
    let is = sym c.in-Some.ensures.slot in
    let x = c.in-Some.x in
    let here = member_here ss i within x is in
    let set = c.set_last.ensures.set c.args.vars.now c.loop-i.invariant.room in
    let same = sym (ap (setting_at c.args.scene.now) (c.deref.ensures.value ∙ set)) in
    let test = λ (y : ℕ). holds f bs false (bind s y) in
    let tells = c.in_ok-holds.ensures.holds ∙ sym (ap (λ y. holds f bs false y) same) in
    record {
      room = record { last = x; is = set };
      inner = inner_next ss i within (λ y. IsInner o vs f bs (bind s y)) x is c.loop-i.invariant.inner;
      rest = count_step test x (held (drop i ss)) (held (drop (i + 1) ss)) c.loop-i.count c.counted-count.result _ c.in_ok-holds.holds here tells c.counted-count.ensures.count c.loop-i.invariant.rest;
      low = omega (arith, at_most_one c.in_ok-holds.holds, c.counted-count.ensures.count, c.loop-i.invariant.low);
    }

pub sum_at-plus-sum-requires : goal.sum_at-plus-sum-requires
sum_at-plus-sum-requires t c =
    let o = c.args.scene.now.objects.now in
    let vs = c.args.scene.now.values.now in
    let s = setting_at c.args.scene.now c.args.vars.now in
    let f = optional_tree c.args.filter.now in
    let bs = trees_of c.args.body.now in
    let ss = slots o vs c.args.list.now in
    let i = c.loop-i.i in
    let within : i < length ss = omega (arith, c.loop-i-test.true, c.slot_count-i-end.ensures.count) in
    let is = sym c.in-Some.ensures.slot in
    let x = c.in-Some.x in
    let here = member_here ss i within x is in
    let set = c.set_last.ensures.set c.args.vars.now c.loop-i.invariant.room in
    let same = sym (ap (setting_at c.args.scene.now) (c.deref.ensures.value ∙ set)) in
    let term = λ (y : ℕ). term_of f bs (bind s y) in
    let rest = total (map term (held (drop (i + 1) ss))) in
    let split = ap (λ ys. total (map term ys)) here ∙ ap (λ v. v +ℤ rest) (ap (λ y. term_of f bs y) same ∙ sym c.in_ok-term.ensures.term) in
    record { small = small_step c.loop-i.sum.value c.in_ok-term.term.value rest (total (map term (held (drop i ss)))) (total (map term (held ss))) split c.loop-i.invariant.rest (c.requires.small (i + 1)) (c.requires.small 0) }

pub sum_at-loop-i-preserved : goal.sum_at-loop-i-preserved
sum_at-loop-i-preserved t c =
    let o = c.args.scene.now.objects.now in
    let vs = c.args.scene.now.values.now in
    let s = setting_at c.args.scene.now c.args.vars.now in
    let f = optional_tree c.args.filter.now in
    let bs = trees_of c.args.body.now in
    let ss = slots o vs c.args.list.now in
    let i = c.loop-i.i in
    let within : i < length ss = omega (arith, c.loop-i-test.true, c.slot_count-i-end.ensures.count) in
    let is = sym c.in-Some.ensures.slot in
    let x = c.in-Some.x in
    let here = member_here ss i within x is in
    let set = c.set_last.ensures.set c.args.vars.now c.loop-i.invariant.room in
    let same = sym (ap (setting_at c.args.scene.now) (c.deref.ensures.value ∙ set)) in
    let term = λ (y : ℕ). term_of f bs (bind s y) in
    let rest = total (map term (held (drop (i + 1) ss))) in
    let split = ap (λ ys. total (map term ys)) here ∙ ap (λ v. v +ℤ rest) (ap (λ y. term_of f bs y) same ∙ sym c.in_ok-term.ensures.term) in
    record {
      room = record { last = x; is = set };
      inner = inner_next ss i within (λ y. IsInner o vs f bs (bind s y)) x is c.loop-i.invariant.inner;
      rest = sum_step c.loop-i.sum.value c.in_ok-term.term.value rest (total (map term (held (drop i ss)))) (total (map term (held ss))) c.plus-sum.result.value split c.loop-i.invariant.rest c.plus-sum.ensures.sum;
    }

pub firsts_at-first_at-requires : goal.firsts_at-first_at-requires
firsts_at-first_at-requires t c =
    let o = c.args.scene.now.objects.now in
    let vs = c.args.scene.now.values.now in
    let s = setting_at c.args.scene.now c.args.vars.now in
    let bs = trees_of c.args.body.now in
    let ss = slots o vs c.args.list.now in
    let i = c.loop-i.i in
    let within : i < length ss = omega (arith, c.loop-i-test.true, c.slot_count-i-end.ensures.count) in
    let is = sym c.in-Some.ensures.slot in
    let x = c.in-Some.x in
    let here = member_here ss i within x is in
    let set = c.set_last.ensures.set c.args.vars.now c.loop-i.invariant.room in
    let same = sym (ap (setting_at c.args.scene.now) (c.deref.ensures.value ∙ set)) in
    let ok = inner_here ss i within (λ y. AllEvaluable o vs bs (bind s y)) x is c.loop-i.invariant.inner in
    (omega (arith, c.decreases), (c.requires.given, subst (λ y. AllEvaluable o vs bs y) same ok))

pub items_at-item_at-requires : goal.items_at-item_at-requires
items_at-item_at-requires t c =
    let o = c.args.scene.now.objects.now in
    let vs = c.args.scene.now.values.now in
    let s = setting_at c.args.scene.now c.args.vars.now in
    let bs = trees_of c.args.body.now in
    let ss = slots o vs c.args.list.now in
    let i = c.loop-i.i in
    let within : i < length ss = omega (arith, c.loop-i-test.true, c.slot_count-i-end.ensures.count) in
    let is = sym c.in-Some.ensures.slot in
    let x = c.in-Some.x in
    let here = member_here ss i within x is in
    let set = c.set_last.ensures.set c.args.vars.now c.loop-i.invariant.room in
    let same = sym (ap (setting_at c.args.scene.now) (c.deref.ensures.value ∙ set)) in
    let ok = inner_here ss i within (λ y. AllEvaluable o vs bs (bind s y)) x is c.loop-i.invariant.inner in
    (omega (arith, c.decreases), (c.requires.given, subst (λ y. AllEvaluable o vs bs y) same ok))

pub firsts_at-loop-i-preserved : goal.firsts_at-loop-i-preserved
firsts_at-loop-i-preserved t c =
    let o = c.args.scene.now.objects.now in
    let vs = c.args.scene.now.values.now in
    let s = setting_at c.args.scene.now c.args.vars.now in
    let bs = trees_of c.args.body.now in
    let ss = slots o vs c.args.list.now in
    let i = c.loop-i.i in
    let within : i < length ss = omega (arith, c.loop-i-test.true, c.slot_count-i-end.ensures.count) in
    let is = sym c.in-Some.ensures.slot in
    let x = c.in-Some.x in
    let here = member_here ss i within x is in
    let set = c.set_last.ensures.set c.args.vars.now c.loop-i.invariant.room in
    let same = sym (ap (setting_at c.args.scene.now) (c.deref.ensures.value ∙ set)) in
    let g = λ (y : ℕ). first_of (values_of bs (bind s y)) in
    let gives = c.in_ok-value.ensures.value ∙ sym (ap (λ y. first_of (values_of bs y)) same) in
    record {
      room = record { last = x; is = set };
      inner = inner_next ss i within (λ y. AllEvaluable o vs bs (bind s y)) x is c.loop-i.invariant.inner;
      rest = push_step g x (held (drop i ss)) (held (drop (i + 1) ss)) c.loop-i.values.items c.push.new.self.items _ c.in_ok-value.value here gives c.in_ok-push.ensures.items c.loop-i.invariant.rest;
    }

pub items_at-loop-i-preserved : goal.items_at-loop-i-preserved
items_at-loop-i-preserved t c =
    let o = c.args.scene.now.objects.now in
    let vs = c.args.scene.now.values.now in
    let s = setting_at c.args.scene.now c.args.vars.now in
    let bs = trees_of c.args.body.now in
    let ss = slots o vs c.args.list.now in
    let i = c.loop-i.i in
    let within : i < length ss = omega (arith, c.loop-i-test.true, c.slot_count-i-end.ensures.count) in
    let is = sym c.in-Some.ensures.slot in
    let x = c.in-Some.x in
    let here = member_here ss i within x is in
    let set = c.set_last.ensures.set c.args.vars.now c.loop-i.invariant.room in
    let same = sym (ap (setting_at c.args.scene.now) (c.deref.ensures.value ∙ set)) in
    let g = λ (y : ℕ). item_of (values_of bs (bind s y)) in
    let gives = c.in_ok-item.ensures.item ∙ sym (ap (λ y. item_of (values_of bs y)) same) in
    let pushed = ap (map item_view) c.in_ok-push.ensures.items ∙ mapped_push item_view c.loop-i.items.items c.in_ok-item.item in
    record {
      room = record { last = x; is = set };
      inner = inner_next ss i within (λ y. AllEvaluable o vs bs (bind s y)) x is c.loop-i.invariant.inner;
      rest = push_step g x (held (drop i ss)) (held (drop (i + 1) ss)) (map item_view c.loop-i.items.items) (map item_view c.push.new.self.items) _ (item_view c.in_ok-item.item) here gives pushed c.loop-i.invariant.rest;
    }

pub minus_at-negated-requires : goal.minus_at-negated-requires
minus_at-negated-requires t c =
    let o = c.args.scene.now.objects.now in
    let vs = c.args.scene.now.values.now in
    let s = setting_at c.args.scene.now c.args.vars.now in
    record { number = subst (λ v. IsNarrow (int_of v)) (sym c.in_ok-v.ensures.value) (value_narrow o vs c.requires.given.sound c.requires.given.config (tree_of c.args.inner.now) s c.requires.expr) }

pub number_at-value_at-requires : goal.number_at-value_at-requires
number_at-value_at-requires t c =
    let look = c.in-Some.ensures.lookup in
    let o = c.args.scene.now.objects.now in
    let vs = c.args.scene.now.values.now in
    let s = setting_at c.args.scene.now c.args.vars.now in
    let low = nth_low c.args.body.now c.args.n c.in-Some.e.now look.3.0 look.1 in
    (omega (arith, c.decreases, low), (c.requires.given, nth_evaluable o vs s c.args.body.now c.args.n c.in-Some.e.now look.3.0 look.1 c.requires.bodies))

pub members_at-dotted_at-requires : goal.members_at-dotted_at-requires
members_at-dotted_at-requires t c =
    let o = c.args.scene.now.objects.now in
    let vs = c.args.scene.now.values.now in
    let s = setting_at c.args.scene.now c.args.vars.now in
    let is = ap (λ n. node_tree n c.args.e.now.at) c.in-Dot.is ∙ ap (λ e. tree.Dot c.args.e.now.at (tree_of e) c.in-Dot.k c.in-Dot.shape) (sym c.deref-in-Dot.ensures) in
    let d = dot o vs c.requires.given s (tree_of c.args.e.now) c.requires.expr c.args.e.now.at (tree_of c.deref-in-Dot.result.now) c.in-Dot.k c.in-Dot.shape is in
    (omega (arith, c.decreases, d.low), (c.requires.given, d.inner_is))

pub value_at-dot_at-requires : goal.value_at-dot_at-requires
value_at-dot_at-requires t c =
    let o = c.args.scene.now.objects.now in
    let vs = c.args.scene.now.values.now in
    let s = setting_at c.args.scene.now c.args.vars.now in
    let is = ap (λ n. node_tree n c.args.e.now.at) c.in-Dot.is ∙ ap (λ e. tree.Dot c.args.e.now.at (tree_of e) c.in-Dot.k c.in-Dot.shape) (sym c.deref-in-Dot.ensures) in
    let d = dot o vs c.requires.given s (tree_of c.args.e.now) c.requires.expr c.args.e.now.at (tree_of c.deref-in-Dot.result.now) c.in-Dot.k c.in-Dot.shape is in
    (omega (arith, c.decreases, d.low), (c.requires.given, (d.inner_is, d.shape)))

pub value_at-attribute_value-requires-clause-shape : goal.value_at-attribute_value-requires-clause-shape
value_at-attribute_value-requires-clause-shape t c =
    let o = c.args.scene.now.objects.now in
    let vs = c.args.scene.now.values.now in
    let s = setting_at c.args.scene.now c.args.vars.now in
    own o vs c.requires.given s (tree_of c.args.e.now) c.requires.expr c.args.e.now.at c.in-Own.k c.in-Own.shape (ap (λ n. node_tree n c.args.e.now.at) c.in-Own.is)

pub value_at-pair_at-requires : goal.value_at-pair_at-requires
value_at-pair_at-requires t c =
    let o = c.args.scene.now.objects.now in
    let vs = c.args.scene.now.values.now in
    let s = setting_at c.args.scene.now c.args.vars.now in
    let at = c.args.e.now.at in
    let op = c.in-Pair.op in
    let l = c.deref-in-Pair.result.now in
    let r = c.deref-in-Pair-2.result.now in
    let is = ap (λ n. node_tree n at) c.in-Pair.is ∙ ap (λ e. tree.Pair at op (tree_of e) (tree_of c.in-Pair.right.value)) (sym c.deref-in-Pair.ensures) ∙ ap (λ e. tree.Pair at op (tree_of l) (tree_of e)) (sym c.deref-in-Pair-2.ensures) in
    let p = pair o vs c.requires.given s (tree_of c.args.e.now) c.requires.expr at op (tree_of l) (tree_of r) is in
    (omega (arith, c.decreases, p.low), (c.requires.given, (p.left, (p.right, p.number))))

pub members_at-returns-in-Class-clause-members : goal.members_at-returns-in-Class-clause-members
members_at-returns-in-Class-clause-members t c =
    let o = c.args.scene.now.objects.now in
    let vs = c.args.scene.now.values.now in
    let s = setting_at c.args.scene.now c.args.vars.now in
    extent_held o.classes c.in-Class.class 0 (objects o) ∙ sym (ap (λ n. objects_of (value (node_tree n c.args.e.now.at) s)) c.in-Class.is)

pub parts_at-forall_at-requires : goal.parts_at-forall_at-requires
parts_at-forall_at-requires t c =
    let o = c.args.scene.now.objects.now in
    let vs = c.args.scene.now.values.now in
    let s = setting_at c.args.scene.now c.args.vars.now in
    let f = optional_tree c.args.parts.filter.now in
    let bs = trees_of c.args.parts.body.now in
    let over = tree_of c.args.parts.over.now in
    let list = c.in_ok-list.list in
    let xs = members o vs list in
    let e : IsEvaluable o vs (tree.Quant 0 kind.Forall over f bs) s = subst (λ k. IsEvaluable o vs (tree.Quant 0 k over f bs) s) c.in-Forall.is c.requires.expr in
    (omega (arith, c.decreases), (c.requires.given, quant_inner o vs c.requires.given s 0 kind.Forall over f bs e xs c.in_ok-list.ensures.members))

pub parts_at-exists_at-requires : goal.parts_at-exists_at-requires
parts_at-exists_at-requires t c =
    let o = c.args.scene.now.objects.now in
    let vs = c.args.scene.now.values.now in
    let s = setting_at c.args.scene.now c.args.vars.now in
    let f = optional_tree c.args.parts.filter.now in
    let bs = trees_of c.args.parts.body.now in
    let over = tree_of c.args.parts.over.now in
    let list = c.in_ok-list.list in
    let xs = members o vs list in
    let e : IsEvaluable o vs (tree.Quant 0 kind.Exists over f bs) s = subst (λ k. IsEvaluable o vs (tree.Quant 0 k over f bs) s) c.in-Exists.is c.requires.expr in
    (omega (arith, c.decreases), (c.requires.given, quant_inner o vs c.requires.given s 0 kind.Exists over f bs e xs c.in_ok-list.ensures.members))

pub parts_at-count_at-requires : goal.parts_at-count_at-requires
parts_at-count_at-requires t c =
    let o = c.args.scene.now.objects.now in
    let vs = c.args.scene.now.values.now in
    let s = setting_at c.args.scene.now c.args.vars.now in
    let f = optional_tree c.args.parts.filter.now in
    let bs = trees_of c.args.parts.body.now in
    let over = tree_of c.args.parts.over.now in
    let list = c.in_ok-list.list in
    let xs = members o vs list in
    let e : IsEvaluable o vs (tree.Quant 0 kind.Count over f bs) s = subst (λ k. IsEvaluable o vs (tree.Quant 0 k over f bs) s) c.in-Count.is c.requires.expr in
    (omega (arith, c.decreases), (c.requires.given, quant_inner o vs c.requires.given s 0 kind.Count over f bs e xs c.in_ok-list.ensures.members))

pub parts_at-sum_at-requires : goal.parts_at-sum_at-requires
parts_at-sum_at-requires t c =
    let o = c.args.scene.now.objects.now in
    let vs = c.args.scene.now.values.now in
    let s = setting_at c.args.scene.now c.args.vars.now in
    let f = optional_tree c.args.parts.filter.now in
    let bs = trees_of c.args.parts.body.now in
    let over = tree_of c.args.parts.over.now in
    let list = c.in_ok-list.list in
    let xs = members o vs list in
    let e : IsEvaluable o vs (tree.Quant 0 kind.Sum over f bs) s = subst (λ k. IsEvaluable o vs (tree.Quant 0 k over f bs) s) c.in-Sum.is c.requires.expr in
    (omega (arith, c.decreases), (c.requires.given, (quant_inner o vs c.requires.given s 0 kind.Sum over f bs e xs c.in_ok-list.ensures.members, rest_narrow o vs c.requires.given s 0 over f bs e (slots o vs list) c.in_ok-list.ensures.members)))

pub parts_at-firsts_at-requires : goal.parts_at-firsts_at-requires
parts_at-firsts_at-requires t c =
    let o = c.args.scene.now.objects.now in
    let vs = c.args.scene.now.values.now in
    let s = setting_at c.args.scene.now c.args.vars.now in
    let f = optional_tree c.args.parts.filter.now in
    let bs = trees_of c.args.parts.body.now in
    let over = tree_of c.args.parts.over.now in
    let list = c.in_ok-list.list in
    let xs = members o vs list in
    let e : IsEvaluable o vs (tree.Quant 0 kind.AllDifferent over f bs) s = subst (λ k. IsEvaluable o vs (tree.Quant 0 k over f bs) s) c.in-AllDifferent.is c.requires.expr in
    (omega (arith, c.decreases), (c.requires.given, quant_bodies o vs c.requires.given s 0 kind.AllDifferent over f bs e xs c.in_ok-list.ensures.members))

pub parts_at-items_at-requires : goal.parts_at-items_at-requires
parts_at-items_at-requires t c =
    let o = c.args.scene.now.objects.now in
    let vs = c.args.scene.now.values.now in
    let s = setting_at c.args.scene.now c.args.vars.now in
    let f = optional_tree c.args.parts.filter.now in
    let bs = trees_of c.args.parts.body.now in
    let over = tree_of c.args.parts.over.now in
    let list = c.in_ok-list.list in
    let xs = members o vs list in
    let e : IsEvaluable o vs (tree.Quant 0 kind.Pack over f bs) s = subst (λ k. IsEvaluable o vs (tree.Quant 0 k over f bs) s) c.in-Pack.is c.requires.expr in
    (omega (arith, c.decreases), (c.requires.given, quant_bodies o vs c.requires.given s 0 kind.Pack over f bs e xs c.in_ok-list.ensures.members))

pub parts_at-fits_all-requires : goal.parts_at-fits_all-requires
parts_at-fits_all-requires t c =
    let o = c.args.scene.now.objects.now in
    let vs = c.args.scene.now.values.now in
    let s = setting_at c.args.scene.now c.args.vars.now in
    let f = optional_tree c.args.parts.filter.now in
    let bs = trees_of c.args.parts.body.now in
    let over = tree_of c.args.parts.over.now in
    let list = c.in_ok-list.list in
    let xs = members o vs list in
    let e : IsEvaluable o vs (tree.Quant 0 kind.Pack over f bs) s = subst (λ k. IsEvaluable o vs (tree.Quant 0 k over f bs) s) c.in-Pack.is c.requires.expr in
    record { small = items_narrow o vs c.requires.given s 0 over f bs e xs c.in_ok-list.ensures.members (map item_view c.deref-in-Pack.result.now) (ap (map item_view) c.deref-in-Pack.ensures.value ∙ c.in_ok-items-in-Pack.ensures.items) }

pub quant_at-parts_at-requires : goal.quant_at-parts_at-requires
quant_at-parts_at-requires t c =
    let o = c.args.scene.now.objects.now in
    let vs = c.args.scene.now.values.now in
    let s = setting_at c.args.scene.now c.args.vars.now in
    let q = quant.out-RQuant c.args.quant.now in
    let is = quant_is c.args.quant.now 0 ∙ ap (λ es. tree.Quant 0 q.kind (tree_of q.over) (optional_tree q.filter) (trees_of es)) (sym c.deref.ensures.value) in
    let low = ap height is in
    (omega (arith, c.decreases, low), (c.requires.given, subst (λ y. IsEvaluable o vs y s) is c.requires.expr))

pub quant_at-returns : goal.quant_at-returns
quant_at-returns t c =
    let o = c.args.scene.now.objects.now in
    let vs = c.args.scene.now.values.now in
    let s = setting_at c.args.scene.now c.args.vars.now in
    let q = quant.out-RQuant c.args.quant.now in
    let is = quant_is c.args.quant.now 0 ∙ ap (λ es. tree.Quant 0 q.kind (tree_of q.over) (optional_tree q.filter) (trees_of es)) (sym c.deref.ensures.value) in
    record { value = IfOk-weaker c.parts_at.result _ _ (λ v h. h ∙ sym (ap (λ y. value y s) is)) c.parts_at.ensures.value }

pub value_at-quant_at-requires : goal.value_at-quant_at-requires
value_at-quant_at-requires t c =
    let o = c.args.scene.now.objects.now in
    let vs = c.args.scene.now.values.now in
    let s = setting_at c.args.scene.now c.args.vars.now in
    let at = c.args.e.now.at in
    let is = ap (λ n. node_tree n at) c.in-Quant.is ∙ ap (λ q. quant_tree q at) (sym c.deref-in-Quant.ensures) in
    let q = c.deref-in-Quant.result.now in
    let low = ap height is in
    let same = quant_height q at 0 in
    let high = ap height (quant_is q 0) in
    (omega (arith, c.decreases, low, same, high), (c.requires.given, quant_moved o vs s q at 0 (subst (λ y. IsEvaluable o vs y s) is c.requires.expr)))

pub value_at-returns-in-Quant-clause-value : goal.value_at-returns-in-Quant-clause-value
value_at-returns-in-Quant-clause-value t c =
    let o = c.args.scene.now.objects.now in
    let vs = c.args.scene.now.values.now in
    let s = setting_at c.args.scene.now c.args.vars.now in
    let at = c.args.e.now.at in
    let is = ap (λ n. node_tree n at) c.in-Quant.is ∙ ap (λ q. quant_tree q at) (sym c.deref-in-Quant.ensures) in
    IfOk-weaker c.quant_at.result _ _ (λ v h. h ∙ quant_value s c.deref-in-Quant.result.now 0 at ∙ sym (ap (λ y. value y s) is)) c.quant_at.ensures.value

pub parts_at-returns-in_ok-values-in-AllDifferent : goal.parts_at-returns-in_ok-values-in-AllDifferent
parts_at-returns-in_ok-values-in-AllDifferent t c =
    let o = c.args.scene.now.objects.now in
    let vs = c.args.scene.now.values.now in
    let s = setting_at c.args.scene.now c.args.vars.now in
    let f = optional_tree c.args.parts.filter.now in
    let bs = trees_of c.args.parts.body.now in
    let over = tree_of c.args.parts.over.now in
    let list = c.in_ok-list.list in
    let xs = members o vs list in
    let e : IsEvaluable o vs (tree.Quant 0 kind.AllDifferent over f bs) s = subst (λ k. IsEvaluable o vs (tree.Quant 0 k over f bs) s) c.in-AllDifferent.is c.requires.expr in
    let g = λ (y : ℕ). first_of (values_of bs (bind s y)) in
    let all = c.deref.ensures.value ∙ c.in_ok-values-in-AllDifferent.ensures.values ∙ ap (map g) c.in_ok-list.ensures.members in
    record { value = ap (λ b. Truth b) (c.all_differ.ensures.differ ∙ ap all_differ all) ∙ sym (ap (λ k. quantified k (objects_of (value over s)) (λ y. keeps f (bind s y)) (λ y. values_of bs (bind s y))) c.in-AllDifferent.is) }

pub parts_at-returns-in_ok-items-in-Pack : goal.parts_at-returns-in_ok-items-in-Pack
parts_at-returns-in_ok-items-in-Pack t c =
    let o = c.args.scene.now.objects.now in
    let vs = c.args.scene.now.values.now in
    let s = setting_at c.args.scene.now c.args.vars.now in
    let f = optional_tree c.args.parts.filter.now in
    let bs = trees_of c.args.parts.body.now in
    let over = tree_of c.args.parts.over.now in
    let list = c.in_ok-list.list in
    let xs = members o vs list in
    let e : IsEvaluable o vs (tree.Quant 0 kind.Pack over f bs) s = subst (λ k. IsEvaluable o vs (tree.Quant 0 k over f bs) s) c.in-Pack.is c.requires.expr in
    let g = λ (y : ℕ). item_of (values_of bs (bind s y)) in
    let all = ap (map item_view) c.deref-in-Pack.ensures.value ∙ c.in_ok-items-in-Pack.ensures.items ∙ ap (map g) c.in_ok-list.ensures.members in
    record { value = ap (λ b. Truth b) (c.fits_all.ensures.fits ∙ ap (λ ys. fits_all ys ys) all) ∙ sym (ap (λ k. quantified k (objects_of (value over s)) (λ y. keeps f (bind s y)) (λ y. values_of bs (bind s y))) c.in-Pack.is) }

pub parts_at-count_value-requires : goal.parts_at-count_value-requires
parts_at-count_value-requires t c =
    let o = c.args.scene.now.objects.now in
    let vs = c.args.scene.now.values.now in
    let s = setting_at c.args.scene.now c.args.vars.now in
    let f = optional_tree c.args.parts.filter.now in
    let bs = trees_of c.args.parts.body.now in
    let over = tree_of c.args.parts.over.now in
    let list = c.in_ok-list.list in
    let xs = members o vs list in
    let e : IsEvaluable o vs (tree.Quant 0 kind.Count over f bs) s = subst (λ k. IsEvaluable o vs (tree.Quant 0 k over f bs) s) c.in-Count.is c.requires.expr in
    let test = λ (y : ℕ). holds f bs false (bind s y) in
    let is = c.in_ok-count-in-Count.ensures.count ∙ ap (count_by test) c.in_ok-list.ensures.members ∙ counts_are f bs s (objects_of (value over s)) in
    record { small = subst (λ n. IsNarrow (pos n)) (sym is) (value_narrow o vs c.requires.given.sound c.requires.given.config (tree.Quant 0 kind.Count over f bs) s e) }

pub parts_at-returns-in_ok-count-in-Count : goal.parts_at-returns-in_ok-count-in-Count
parts_at-returns-in_ok-count-in-Count t c =
    let o = c.args.scene.now.objects.now in
    let vs = c.args.scene.now.values.now in
    let s = setting_at c.args.scene.now c.args.vars.now in
    let f = optional_tree c.args.parts.filter.now in
    let bs = trees_of c.args.parts.body.now in
    let over = tree_of c.args.parts.over.now in
    let list = c.in_ok-list.list in
    let xs = members o vs list in
    let e : IsEvaluable o vs (tree.Quant 0 kind.Count over f bs) s = subst (λ k. IsEvaluable o vs (tree.Quant 0 k over f bs) s) c.in-Count.is c.requires.expr in
    let test = λ (y : ℕ). holds f bs false (bind s y) in
    let is = c.in_ok-count-in-Count.ensures.count ∙ ap (count_by test) c.in_ok-list.ensures.members ∙ counts_are f bs s (objects_of (value over s)) in
    record { value = c.count_value.ensures.value ∙ ap (λ n. Int (pos n)) is ∙ sym (ap (λ k. quantified k (objects_of (value over s)) (λ y. keeps f (bind s y)) (λ y. values_of bs (bind s y))) c.in-Count.is) }

pub parts_at-returns-in_ok-sum-in-Sum : goal.parts_at-returns-in_ok-sum-in-Sum
parts_at-returns-in_ok-sum-in-Sum t c =
    let o = c.args.scene.now.objects.now in
    let vs = c.args.scene.now.values.now in
    let s = setting_at c.args.scene.now c.args.vars.now in
    let f = optional_tree c.args.parts.filter.now in
    let bs = trees_of c.args.parts.body.now in
    let over = tree_of c.args.parts.over.now in
    let list = c.in_ok-list.list in
    let xs = members o vs list in
    let e : IsEvaluable o vs (tree.Quant 0 kind.Sum over f bs) s = subst (λ k. IsEvaluable o vs (tree.Quant 0 k over f bs) s) c.in-Sum.is c.requires.expr in
    let term = λ (y : ℕ). term_of f bs (bind s y) in
    record { value = c.int_value.ensures.value ∙ ap (λ v. Int v) (c.in_ok-sum-in-Sum.ensures.sum ∙ ap (λ ys. total (map term ys)) c.in_ok-list.ensures.members) ∙ sym (ap (λ k. quantified k (objects_of (value over s)) (λ y. keeps f (bind s y)) (λ y. values_of bs (bind s y))) c.in-Sum.is) }

pub number_at-returns-in_ok-v-in-Some : goal.number_at-returns-in_ok-v-in-Some
number_at-returns-in_ok-v-in-Some t c =
    let o = c.args.scene.now.objects.now in
    let vs = c.args.scene.now.values.now in
    let s = setting_at c.args.scene.now c.args.vars.now in
    let look = c.in-Some.ensures.lookup in
    record { number = c.sum_of.ensures.sum ∙ ap int_of c.in_ok-v-in-Some.ensures.value ∙ nth_number s c.args.body.now c.args.n c.in-Some.e.now look.3.0 look.1 }

pub number_at-returns-in-None : goal.number_at-returns-in-None
number_at-returns-in-None t c =
    let s = setting_at c.args.scene.now c.args.vars.now in
    record { number = no_number s c.args.body.now c.args.n c.in-None.ensures.lookup.3 }

pub members_at-returns-in-Number-clause-members : goal.members_at-returns-in-Number-clause-members
members_at-returns-in-Number-clause-members t c =
    let s = setting_at c.args.scene.now c.args.vars.now in
    no_list c.args.e.now.node c.args.e.now.at s c.in-Number.is

pub value_at-returns-in-Quant-clause-memory : goal.value_at-returns-in-Quant-clause-memory
value_at-returns-in-Quant-clause-memory t c h =
    let at = c.args.e.now.at in
    let is = ap (λ n. node_tree n at) c.in-Quant.is ∙ ap (λ q. quant_tree q at) (sym c.deref-in-Quant.ensures) in
    let yes = quant_takes (tree_of c.args.e.now) c.deref-in-Quant.result.now at is in
    absurd (cc (yes, h))
