use Rattle.std.proofs.Common.{◌≡◌, ◌≤◌, ◌+◌, ◌-◌, ◌*◌, ◌++◌, ◌+ℤ◌, max, drop, map, true, false}
use Rattle.std.specs.Prelude.{All, count_by}
use Rattle.std.specs.List.{list_all, list_any}
use Rattle.conf_types.specs.TreeOf.{tree_of, quant_tree, optional_tree, trees_of}
use Rattle.conf_eval.specs.Evaluating.{IsRoom, AllEvaluable, AreInner, setting_at, holds, term_of, height, filter_height, bodies_height}
use Rattle.conf_eval.specs.Listing.{slots, held, members}
use Rattle.conf_eval.specs.Meaning.{bind, all_true, values_of, first_of, item_of, total}
use Rattle.conf_eval.specs.Packing.{item_view}
use Rattle.conf_eval.proofs.evaluate.+eval.Given as goal

abbrev pub decreases-value_at : goal.decreases-value_at
decreases-value_at l = 16 * height (tree_of l.e.now)

abbrev pub decreases-members_at : goal.decreases-members_at
decreases-members_at l = 16 * height (tree_of l.e.now) + 1

abbrev pub decreases-minus_at : goal.decreases-minus_at
decreases-minus_at l = 16 * height (tree_of l.inner.now) + 4

abbrev pub decreases-not_at : goal.decreases-not_at
decreases-not_at l = 16 * height (tree_of l.inner.now) + 4

abbrev pub decreases-dot_at : goal.decreases-dot_at
decreases-dot_at l = 16 * height (tree_of l.inner.now) + 4

abbrev pub decreases-dotted_at : goal.decreases-dotted_at
decreases-dotted_at l = 16 * height (tree_of l.inner.now) + 4

abbrev pub decreases-pair_at : goal.decreases-pair_at
decreases-pair_at l = 16 * max (height (tree_of l.left.now)) (height (tree_of l.right.now)) + 4

abbrev pub decreases-quant_at : goal.decreases-quant_at
decreases-quant_at l = 16 * height (quant_tree l.quant.now 0) - 1

abbrev pub decreases-parts_at : goal.decreases-parts_at
decreases-parts_at l = 16 * max (height (tree_of l.parts.over.now)) (max (filter_height (optional_tree l.parts.filter.now)) (bodies_height (trees_of l.parts.body.now))) + 14

abbrev pub decreases-forall_at : goal.decreases-forall_at
decreases-forall_at l = 16 * max (filter_height (optional_tree l.filter.now)) (bodies_height (trees_of l.body.now)) + 12

abbrev pub decreases-exists_at : goal.decreases-exists_at
decreases-exists_at l = 16 * max (filter_height (optional_tree l.filter.now)) (bodies_height (trees_of l.body.now)) + 12

abbrev pub decreases-count_at : goal.decreases-count_at
decreases-count_at l = 16 * max (filter_height (optional_tree l.filter.now)) (bodies_height (trees_of l.body.now)) + 12

abbrev pub decreases-sum_at : goal.decreases-sum_at
decreases-sum_at l = 16 * max (filter_height (optional_tree l.filter.now)) (bodies_height (trees_of l.body.now)) + 12

abbrev pub decreases-firsts_at : goal.decreases-firsts_at
decreases-firsts_at l = 16 * bodies_height (trees_of l.body.now) + 12

abbrev pub decreases-items_at : goal.decreases-items_at
decreases-items_at l = 16 * bodies_height (trees_of l.body.now) + 12

abbrev pub decreases-holds_at : goal.decreases-holds_at
decreases-holds_at l = 16 * max (filter_height (optional_tree l.filter.now)) (bodies_height (trees_of l.body.now)) + 10

abbrev pub decreases-term_at : goal.decreases-term_at
decreases-term_at l = 16 * max (filter_height (optional_tree l.filter.now)) (bodies_height (trees_of l.body.now)) + 10

abbrev pub decreases-item_at : goal.decreases-item_at
decreases-item_at l = 16 * bodies_height (trees_of l.body.now) + 10

abbrev pub decreases-keeps_at : goal.decreases-keeps_at
decreases-keeps_at l = 16 * filter_height (optional_tree l.filter.now) + 8

abbrev pub decreases-all_true_at : goal.decreases-all_true_at
decreases-all_true_at l = 16 * bodies_height (trees_of l.body.now) + 8

abbrev pub decreases-first_at : goal.decreases-first_at
decreases-first_at l = 16 * bodies_height (trees_of l.body.now) + 8

abbrev pub decreases-number_at : goal.decreases-number_at
decreases-number_at l = 16 * bodies_height (trees_of l.body.now) + 8

-- those bodies that are left are true exactly where all are
abbrev pub invariant-all_true_at-loop-e : goal.invariant-all_true_at-loop-e
invariant-all_true_at-loop-e l =
    let s = setting_at l.scene l.vars in
    let left = trees_of (drop l.e-index l.body) in
    record {
      rest : all_true (values_of left s) ≡ all_true (values_of (trees_of l.body) s);
      bodies : AllEvaluable l.scene.objects.now l.scene.values.now left s;
      low : bodies_height left ≤ bodies_height (trees_of l.body);
    }

-- with the members that are left it is what is said of all
abbrev pub invariant-forall_at-loop-i : goal.invariant-forall_at-loop-i
invariant-forall_at-loop-i l =
    let o = l.scene.objects.now in
    let vs = l.scene.values.now in
    let s = setting_at l.scene l.vars in
    let f = optional_tree l.filter in
    let bs = trees_of l.body in
    let left = held (drop l.i (slots o vs l.list)) in
    record {
      room : IsRoom l.vars l.inner.items;
      inner : AreInner o vs f bs s left;
      rest : list_all (λ x. holds f bs true (bind s x)) left ≡ list_all (λ x. holds f bs true (bind s x)) (members o vs l.list);
    }

abbrev pub invariant-exists_at-loop-i : goal.invariant-exists_at-loop-i
invariant-exists_at-loop-i l =
    let o = l.scene.objects.now in
    let vs = l.scene.values.now in
    let s = setting_at l.scene l.vars in
    let f = optional_tree l.filter in
    let bs = trees_of l.body in
    let left = held (drop l.i (slots o vs l.list)) in
    record {
      room : IsRoom l.vars l.inner.items;
      inner : AreInner o vs f bs s left;
      rest : list_any (λ x. holds f bs false (bind s x)) left ≡ list_any (λ x. holds f bs false (bind s x)) (members o vs l.list);
    }

abbrev pub invariant-count_at-loop-i : goal.invariant-count_at-loop-i
invariant-count_at-loop-i l =
    let o = l.scene.objects.now in
    let vs = l.scene.values.now in
    let s = setting_at l.scene l.vars in
    let f = optional_tree l.filter in
    let bs = trees_of l.body in
    let left = held (drop l.i (slots o vs l.list)) in
    record {
      room : IsRoom l.vars l.inner.items;
      inner : AreInner o vs f bs s left;
      rest : l.count + count_by (λ x. holds f bs false (bind s x)) left ≡ count_by (λ x. holds f bs false (bind s x)) (members o vs l.list);
      low : l.count ≤ l.i;
    }

abbrev pub invariant-sum_at-loop-i : goal.invariant-sum_at-loop-i
invariant-sum_at-loop-i l =
    let o = l.scene.objects.now in
    let vs = l.scene.values.now in
    let s = setting_at l.scene l.vars in
    let f = optional_tree l.filter in
    let bs = trees_of l.body in
    let left = held (drop l.i (slots o vs l.list)) in
    record {
      room : IsRoom l.vars l.inner.items;
      inner : AreInner o vs f bs s left;
      rest : l.sum.value +ℤ total (map (λ x. term_of f bs (bind s x)) left) ≡ total (map (λ x. term_of f bs (bind s x)) (members o vs l.list));
    }

abbrev pub invariant-firsts_at-loop-i : goal.invariant-firsts_at-loop-i
invariant-firsts_at-loop-i l =
    let o = l.scene.objects.now in
    let vs = l.scene.values.now in
    let s = setting_at l.scene l.vars in
    let bs = trees_of l.body in
    let left = held (drop l.i (slots o vs l.list)) in
    record {
      room : IsRoom l.vars l.inner.items;
      inner : All (λ x. AllEvaluable o vs bs (bind s x)) left;
      rest : l.values.items ++ map (λ x. first_of (values_of bs (bind s x))) left ≡ map (λ x. first_of (values_of bs (bind s x))) (members o vs l.list);
    }

abbrev pub invariant-items_at-loop-i : goal.invariant-items_at-loop-i
invariant-items_at-loop-i l =
    let o = l.scene.objects.now in
    let vs = l.scene.values.now in
    let s = setting_at l.scene l.vars in
    let bs = trees_of l.body in
    let left = held (drop l.i (slots o vs l.list)) in
    record {
      room : IsRoom l.vars l.inner.items;
      inner : All (λ x. AllEvaluable o vs bs (bind s x)) left;
      rest : map item_view l.items.items ++ map (λ x. item_of (values_of bs (bind s x))) left ≡ map (λ x. item_of (values_of bs (bind s x))) (members o vs l.list);
    }
