use Rattle.std.proofs.Common.{◌≡◌, true, ◌≤◌, ◌+◌, ◌-◌, ◌*◌, ◌++◌, ◌∷◌, [], ℕ, ℤ, List, max, drop, take, length}
use Rattle.std.specs.List.{All}
use Rattle.conf_types.specs.TreeOf.{tree_of, quant_tree, optional_tree, trees_of}
use Rattle.conf_types.specs.Typing.{Place}
use Rattle.conf_types.specs.Trees.{NoFilter}
use Rattle.conf_eval.specs.Fitting.{Fits}
use Rattle.conf_eval.specs.Evaluating.{IsRoom, height, filter_height, bodies_height}
use Rattle.conf_eval.specs.Meaning.{keeps, values_of}
use Rattle.form_build.specs.Worlds.{IsWorld, AreKnown, Defines}
use Rattle.form_build.specs.declared.form.Truth.TheVariants as truth
use Rattle.expr_forms.specs.Standing.{bare_setting, world_setting}
use Rattle.expr_forms.specs.declared.form.Member.{Member}
use Rattle.ground_expr.specs.Bodies.{AreBodies, IsPartOf, given}
use Rattle.quantifier_forms.specs.PartValues.{kept_values}
use Rattle.pairwise_forms.specs.Wholes.{AreKept}
use Rattle.ground_expr.proofs.forms.+forms.Given as goal

abbrev pub decreases-form_at : goal.decreases-form_at
decreases-form_at l = 16 * height (tree_of l.e.now)

abbrev pub decreases-list_at : goal.decreases-list_at
decreases-list_at l = 16 * height (tree_of l.e.now) + 1

abbrev pub decreases-minus_at : goal.decreases-minus_at
decreases-minus_at l = 16 * height (tree_of l.inner.now) + 4

abbrev pub decreases-not_at : goal.decreases-not_at
decreases-not_at l = 16 * height (tree_of l.inner.now) + 4

abbrev pub decreases-dot_at : goal.decreases-dot_at
decreases-dot_at l = 16 * height (tree_of l.inner.now) + 4

abbrev pub decreases-pair_at : goal.decreases-pair_at
decreases-pair_at l = 16 * max (height (tree_of l.left.now)) (height (tree_of l.right.now)) + 4

abbrev pub decreases-quant_at : goal.decreases-quant_at
decreases-quant_at l = 16 * height (quant_tree l.quant.now 0) - 1

abbrev pub decreases-own_parts_at : goal.decreases-own_parts_at
decreases-own_parts_at l = 16 * height (quant_tree l.quant.now 0) - 2

abbrev pub decreases-parts_at : goal.decreases-parts_at
decreases-parts_at l = 16 * max (height (tree_of l.over.now)) (max (filter_height (optional_tree l.filter.now)) (bodies_height (trees_of l.body.now))) + 13

abbrev pub decreases-parts_over : goal.decreases-parts_over
decreases-parts_over l = 16 * max (filter_height (optional_tree l.filter.now)) (bodies_height (trees_of l.body.now)) + 12

abbrev pub decreases-push_part : goal.decreases-push_part
decreases-push_part l = 16 * max (filter_height (optional_tree l.filter.now)) (bodies_height (trees_of l.body.now)) + 10

abbrev pub decreases-kept_at : goal.decreases-kept_at
decreases-kept_at l = 16 * filter_height (optional_tree l.filter.now) + 8

abbrev pub decreases-bodies_at : goal.decreases-bodies_at
decreases-bodies_at l = 16 * bodies_height (trees_of l.body.now) + 8

-- the forms stand for the bodies that were passed
abbrev pub invariant-bodies_at-loop-e : goal.invariant-bodies_at-loop-e
invariant-bodies_at-loop-e l = record {
  forms : AreBodies l.scene.objects.now l.maker l.scene.known.now (trees_of (take l.e-index l.body)) l.scene.this l.scene.vars.now l.forms.items;
  adds : Defines l.fn.maker l.maker;
}

-- with what the members that are left give, the parts give what all members give
abbrev pub invariant-parts_over-loop-m : goal.invariant-parts_over-loop-m
invariant-parts_over-loop-m l =
    let o = l.scene.objects.now in
    let f = optional_tree l.filter in
    let bs = trees_of l.body in
    record {
      room : IsRoom l.scene.vars.now l.inner.items;
      value : (a : List ℤ) → IsWorld l.maker a → AreKnown l.scene.known.now a →
          let keep = λ (x : ℕ). keeps f (world_setting o l.maker a l.scene.this (l.scene.vars.now ++ x ∷ [])) in
          let values = λ (x : ℕ). values_of bs (world_setting o l.maker a l.scene.this (l.scene.vars.now ++ x ∷ [])) in
          kept_values l.parts.items a ++ given keep values (drop l.m-index l.members) a ≡ given keep values l.members a;
      each : (p : Place) → All (λ (m : Member). Fits o [] p (bare_setting o l.scene.this (l.scene.vars.now ++ m.object ∷ []))) l.members → All (IsPartOf o l.maker.domains p l.scene.this bs) l.parts.items;
      few : length l.parts.items ≤ l.m-index;
      kept : f ≡ NoFilter → All (λ (m : Member). m.is ≡ truth.Fixed true) l.members → AreKept l.parts.items;
      adds : Defines l.fn.maker l.maker;
    }
