use Rattle.std.proofs.Common.{◌≡◌, true, refl, ◌∙◌, ◌<◌, ◌≤◌, ◌+◌, ◌++◌, ◌&&◌, not, cond, ℕ, ℤ, List, ap, sym, subst, arith, length, take, [], ◌∷◌, Some}
use Rattle.std.specs.List.{All}
use Rattle.std.proofs.lemmas.List.Elements.{All-nil}
use Rattle.std.proofs.lemmas.Result.{IfOk-weaker}
use Rattle.conf_types.specs.declared.tree.RExpr.{RExpr}
use Rattle.conf_types.specs.declared.tree.RQuant as quant
use Rattle.conf_types.specs.Trees.{Tree, NoFilter}
use Rattle.conf_types.specs.TreeOf.{tree_of, node_tree, quant_tree, optional_tree, trees_of}
use Rattle.conf_types.specs.Trees as tree
use Rattle.object_alloc.specs.Walk.{objects}
use Rattle.conf_types.specs.Typing.{Place}
use Rattle.conf_eval.specs.Fitting.{Fits}
use Rattle.pairwise_forms.specs.AlikeParts.{AreAlike, AreSizes}
use Rattle.conf_eval.specs.Evaluating.{height, bodies_height}
use Rattle.conf_eval.specs.Meaning.{keeps, values_of}
use Rattle.conf_eval.proofs.LawsNarrow.{narrow_interval}
use Rattle.conf_eval.proofs.EvalLaws.{quant_is, quant_moved, quant_height, nth_evaluable, nth_low}
use Rattle.signed_clause.specs.Clauses.{Boxes}
use Rattle.form_build.specs.declared.form.Truth.{Truth as ATruth}
use Rattle.form_build.specs.declared.form.Truth.TheVariants as truth
use Rattle.form_build.specs.Forms.{truth_at, HasVariable}
use Rattle.form_build.specs.Worlds.{IsWorld, IsInBoxes, AreKnown}
use Rattle.form_build.proofs.Growth.{adds_nothing, defines_more}
use Rattle.expr_forms.specs.declared.form.Choice.{Choice}
use Rattle.expr_forms.specs.declared.form.Choice.TheVariants as choice
use Rattle.expr_forms.specs.declared.form.Form.{Form}
use Rattle.expr_forms.specs.declared.form.Form.TheVariants as form
use Rattle.expr_forms.specs.declared.form.Member.{Member}
use Rattle.expr_forms.specs.FormBounds.{IsChoiceOf, IsFrom}
use Rattle.expr_forms.specs.Standing.{IsStanding, HasCells, bare_setting, world_setting}
use Rattle.expr_forms.proofs.Growing.{boxes_kept, variable_kept}
use Rattle.expr_forms.proofs.Inside.{in_right, own_shape}
use Rattle.expr_forms.proofs.Configured.{cells_still}
use Rattle.reference_forms.specs.Candidates.{HaveShape}
use Rattle.reference_forms.specs.Dots.{IsDotForm}
use Rattle.quantifier_forms.specs.declared.part.Part.{Part}
use Rattle.quantifier_forms.specs.PartValues.{kept_values}
use Rattle.pairwise_forms.specs.Wholes.{AreKept}
use Rattle.quantifier_forms.specs.Quantified.{AreParts, IsQuantified}
use Rattle.ground_expr.specs.Bodies.{AreBodies, IsPartOf, given}
use Rattle.ground_expr.specs.Chosen.{class_part, choice_part}
use Rattle.ground_expr.specs.Insides.{IsOver, IsInside}
use Rattle.ground_expr.specs.Made.{IsMade}
use Rattle.ground_expr.proofs.InsideQuantifiers.{over_stands, without_filter}
use Rattle.ground_expr.proofs.NameForms.{this_low, local_there, this_is, local_is, value_is, class_is, own_is, root_is}
use Rattle.ground_expr.proofs.Nodes.{number_is, truth_is, chosen_shapes, fixed_shape}
use Rattle.ground_expr.proofs.PartLaws.{form_usable, bodies_still, bodies_push, parts_kept}
use Rattle.ground_expr.proofs.PartSteps.{at_scene, item_at, none_kept, no_bodies, all_bodies, kept_none, kept_some, not_pushed, pushed, pushed_each, pushed_kept, part_next, part_end, over_parts, members_inside}
use Rattle.ground_expr.proofs.Steps.{made_leaf, made_at, made_moved, stand_at, made_not, made_minus, not_fixed, made_dot, made_fixed_dot, quant_parts, quant_alike, quant_sized, made_quant, members_made, operands, left_usable, right_usable, made_pair, minus_low, minus_high, this_there}
use Rattle.ground_expr.proofs.forms.+forms.Goals as goal

pub form_at-object_form-requires : goal.form_at-object_form-requires
form_at-object_form-requires t c =
    let o = c.args.scene.now.objects.now in
    let s = stand_at o c.args.scene.now.known.now c.args.scene.now.this c.args.scene.now.vars.now (tree_of c.args.e.now) (tree.This c.args.e.now.at) (ap (λ n. node_tree n c.args.e.now.at) c.in-This.is) c.requires.standing in
    subst (λ (x : ℕ). x < length (objects o)) (sym c.unwrap_or.ensures) (this_low o c.args.scene.now.this c.args.scene.now.vars.now c.args.e.now.at _ (this_there o c.args.scene.now.this c.args.scene.now.vars.now c.args.e.now.at s) s)

pub form_at-object_form-requires-in-Local : goal.form_at-object_form-requires-in-Local
form_at-object_form-requires-in-Local t c =
    let o = c.args.scene.now.objects.now in
    let s = stand_at o c.args.scene.now.known.now c.args.scene.now.this c.args.scene.now.vars.now (tree_of c.args.e.now) (tree.Local c.args.e.now.at c.in-Local.k) (ap (λ n. node_tree n c.args.e.now.at) c.in-Local.is) c.requires.standing in
    subst (λ (x : ℕ). x < length (objects o)) (sym c.local_object.ensures) (local_there o c.args.scene.now.this c.args.scene.now.vars.now c.args.e.now.at c.in-Local.k s)

pub form_at-attribute_at-requires-clause-shape : goal.form_at-attribute_at-requires-clause-shape
form_at-attribute_at-requires-clause-shape t c =
    let o = c.args.scene.now.objects.now in
    own_shape o c.args.scene.now.this c.args.scene.now.vars.now c.count-count.ensures.sound c.args.e.now.at c.in-Own.k c.in-Own.shape
    (stand_at o c.args.scene.now.known.now c.args.scene.now.this c.args.scene.now.vars.now (tree_of c.args.e.now) (tree.Own c.args.e.now.at c.in-Own.k c.in-Own.shape) (ap (λ n. node_tree n c.args.e.now.at) c.in-Own.is) c.requires.standing)

pub form_at-returns-in-Number : goal.form_at-returns-in-Number
form_at-returns-in-Number t c =
    let o = c.args.scene.now.objects.now in
    let g = c.args.maker.now in
    let this = c.args.scene.now.this in
    let vars = c.args.scene.now.vars.now in
    let known = c.args.scene.now.known.now in
    record {
      made = made_at o known this vars g g (tree_of c.args.e.now) (tree.Number c.args.e.now.at c.in-Number.n) _ (ap (λ n. node_tree n c.args.e.now.at) c.in-Number.is)
          (made_leaf o known this vars g (tree.Number c.args.e.now.at c.in-Number.n) _ (number_is o g known this vars c.args.e.now.at c.in-Number.n c.number_sum.result c.number_sum.ensures.small c.number_sum.ensures.value c.number_sum.ensures.linear c.number_sum.ensures.lies) (λ p. p));
    }

pub form_at-returns-in-Truth : goal.form_at-returns-in-Truth
form_at-returns-in-Truth t c =
    let o = c.args.scene.now.objects.now in
    let g = c.args.maker.now in
    let this = c.args.scene.now.this in
    let vars = c.args.scene.now.vars.now in
    let known = c.args.scene.now.known.now in
    record {
      made = made_at o known this vars g g (tree_of c.args.e.now) (tree.Truth c.args.e.now.at c.in-Truth.truth) _ (ap (λ n. node_tree n c.args.e.now.at) c.in-Truth.is)
          (made_leaf o known this vars g (tree.Truth c.args.e.now.at c.in-Truth.truth) _ (truth_is o g known this vars c.args.e.now.at c.in-Truth.truth) (λ p. p));
    }

pub form_at-returns-in-This : goal.form_at-returns-in-This
form_at-returns-in-This t c =
    let o = c.args.scene.now.objects.now in
    let g = c.args.maker.now in
    let this = c.args.scene.now.this in
    let vars = c.args.scene.now.vars.now in
    let known = c.args.scene.now.known.now in
    let is = ap (λ n. node_tree n c.args.e.now.at) c.in-This.is in
    let s = stand_at o known this vars (tree_of c.args.e.now) (tree.This c.args.e.now.at) is c.requires.standing in
    let there = this_there o this vars c.args.e.now.at s ∙ ap (λ (x : ℕ). Some x) (sym c.unwrap_or.ensures) in
    record {
      made = subst (λ (f : Form). IsMade o known g g (tree_of c.args.e.now) this vars f) (sym c.object_form.ensures.1)
          (made_at o known this vars g g (tree_of c.args.e.now) (tree.This c.args.e.now.at) _ is
          (made_leaf o known this vars g (tree.This c.args.e.now.at) _ (this_is o g known this vars c.args.e.now.at c.object_form.ensures.0 c.unwrap_or.result there) (λ p. refl)));
    }

pub form_at-returns-in-Local : goal.form_at-returns-in-Local
form_at-returns-in-Local t c =
    let o = c.args.scene.now.objects.now in
    let g = c.args.maker.now in
    let this = c.args.scene.now.this in
    let vars = c.args.scene.now.vars.now in
    let known = c.args.scene.now.known.now in
    let d = c.object_form-in-Local.ensures.0 in
    let same = c.object_form-in-Local.ensures.1 ∙ ap (λ (x : ℕ). form.Object d (choice.Fixed x)) c.local_object.ensures in
    record {
      made = subst (λ (f : Form). IsMade o known g g (tree_of c.args.e.now) this vars f) (sym same)
          (made_at o known this vars g g (tree_of c.args.e.now) (tree.Local c.args.e.now.at c.in-Local.k) _ (ap (λ n. node_tree n c.args.e.now.at) c.in-Local.is)
          (made_leaf o known this vars g (tree.Local c.args.e.now.at c.in-Local.k) _ (local_is o g known this vars c.args.e.now.at d c.in-Local.k) (λ p. refl)));
    }

pub form_at-returns-in-Value : goal.form_at-returns-in-Value
form_at-returns-in-Value t c =
    let o = c.args.scene.now.objects.now in
    let g = c.args.maker.now in
    let this = c.args.scene.now.this in
    let vars = c.args.scene.now.vars.now in
    let known = c.args.scene.now.known.now in
    record {
      made = made_at o known this vars g g (tree_of c.args.e.now) (tree.Value c.args.e.now.at c.in-Value.enumeration c.in-Value.k) _ (ap (λ n. node_tree n c.args.e.now.at) c.in-Value.is)
          (made_leaf o known this vars g (tree.Value c.args.e.now.at c.in-Value.enumeration c.in-Value.k) _ (value_is o g known this vars c.args.e.now.at c.in-Value.enumeration c.in-Value.k) (λ p. p));
    }

pub form_at-returns-in_ok-all-in-Class : goal.form_at-returns-in_ok-all-in-Class
form_at-returns-in_ok-all-in-Class t c =
    let o = c.args.scene.now.objects.now in
    let g = c.args.maker.now in
    let this = c.args.scene.now.this in
    let vars = c.args.scene.now.vars.now in
    let known = c.args.scene.now.known.now in
    record {
      made = made_at o known this vars g g (tree_of c.args.e.now) (tree.Class c.args.e.now.at c.in-Class.class) _ (ap (λ n. node_tree n c.args.e.now.at) c.in-Class.is)
          (made_leaf o known this vars g (tree.Class c.args.e.now.at c.in-Class.class) _ (class_is o g known this vars c.args.e.now.at c.in-Class.class c.in_ok-all-in-Class.all c.in_ok-all-in-Class.ensures) (λ p. refl));
    }

pub form_at-returns-in-Own : goal.form_at-returns-in-Own
form_at-returns-in-Own t c =
    let o = c.args.scene.now.objects.now in
    let g = c.args.maker.now in
    let this = c.args.scene.now.this in
    let vars = c.args.scene.now.vars.now in
    let known = c.args.scene.now.known.now in
    record {
      made = IfOk-weaker c.attribute_at.result _ _ (λ f h. made_at o known this vars g g (tree_of c.args.e.now) (tree.Own c.args.e.now.at c.in-Own.k c.in-Own.shape) f (ap (λ n. node_tree n c.args.e.now.at) c.in-Own.is)
          (made_leaf o known this vars g (tree.Own c.args.e.now.at c.in-Own.k c.in-Own.shape) f (own_is o g known this vars c.args.e.now.at c.in-Own.k c.in-Own.shape f h) h.fixed)) c.attribute_at.ensures.form;
    }

pub form_at-returns-in-Root : goal.form_at-returns-in-Root
form_at-returns-in-Root t c =
    let o = c.args.scene.now.objects.now in
    let g = c.args.maker.now in
    let this = c.args.scene.now.this in
    let vars = c.args.scene.now.vars.now in
    let known = c.args.scene.now.known.now in
    record {
      made = IfOk-weaker c.attribute_at-in-Root.result _ _ (λ f h. made_at o known this vars g g (tree_of c.args.e.now) (tree.Root c.args.e.now.at c.in-Root.k c.in-Root.shape) f (ap (λ n. node_tree n c.args.e.now.at) c.in-Root.is)
          (made_leaf o known this vars g (tree.Root c.args.e.now.at c.in-Root.k c.in-Root.shape) f (root_is o g known this vars c.args.e.now.at c.in-Root.k c.in-Root.shape f h) h.fixed)) c.attribute_at-in-Root.ensures.form;
    }

pub minus_at-minus-requires-clause-low : goal.minus_at-minus-requires-clause-low
minus_at-minus-requires-clause-low t c =
    minus_low c.args.scene.now.objects.now c.form_at.new.maker c.args.scene.now.known.now 0 (tree_of c.args.inner.now) c.in_ok-f.f c.args.scene.now.this c.args.scene.now.vars.now c.number-nought.result c.number_of-number.result
    c.requires.standing.numbers c.in_ok-f.ensures.made.form (c.number-nought.ensures.lies c.form_at.new.maker.domains) c.number_of-number.ensures.number

pub minus_at-minus-requires-clause-high : goal.minus_at-minus-requires-clause-high
minus_at-minus-requires-clause-high t c =
    minus_high c.args.scene.now.objects.now c.form_at.new.maker c.args.scene.now.known.now 0 (tree_of c.args.inner.now) c.in_ok-f.f c.args.scene.now.this c.args.scene.now.vars.now c.number-nought.result c.number_of-number.result
    c.requires.standing.numbers c.in_ok-f.ensures.made.form (c.number-nought.ensures.lies c.form_at.new.maker.domains) c.number_of-number.ensures.number

pub minus_at-returns : goal.minus_at-returns
minus_at-returns t c = record {
  made = made_minus c.args.scene.now.objects.now c.args.scene.now.known.now c.args.scene.now.this c.args.scene.now.vars.now c.args.maker.now c.form_at.new.maker c.minus.new.b 0 (tree_of c.args.inner.now) c.in_ok-f.f
      c.number-nought.result c.number_of-number.result c.in_ok-r.r c.number_of-number.ensures.number c.in_ok-f.ensures.made c.number-nought.ensures.value (c.number-nought.ensures.lies c.form_at.new.maker.domains)
      c.in_ok-r.ensures.value c.in_ok-r.ensures.sum c.in_ok-r.ensures.adds;
}

pub not_at-returns : goal.not_at-returns
not_at-returns t c =
    let o = c.args.scene.now.objects.now in
    let this = c.args.scene.now.this in
    let vars = c.args.scene.now.vars.now in
    let known = c.args.scene.now.known.now in
    let mid = c.form_at.new.maker in
    record {
      made = made_not o known this vars c.args.maker.now mid 0 (tree_of c.args.inner.now) c.in_ok-f.f c.in_ok-truth.truth c.in_ok-f.ensures.made
          (subst (λ (z : Boxes). HasVariable (length z) c.in_ok-truth.truth) c.domains.ensures.items c.in_ok-truth.ensures.variable)
          (λ a w. c.in_ok-truth.ensures.value a (subst (λ (z : Boxes). IsInBoxes z a) (sym c.domains.ensures.items) w) ∙ ap (λ (z : ATruth). not (truth_at z a)) c.truth_of.ensures.truth);
    }

pub pair_at-form_at-requires-2 : goal.pair_at-form_at-requires-2
pair_at-form_at-requires-2 t c =
    let o = c.args.scene.now.objects.now in
    let this = c.args.scene.now.this in
    let vars = c.args.scene.now.vars.now in
    let known = c.args.scene.now.known.now in
    (omega (arith, c.decreases), (in_right o this vars 0 c.args.op (tree_of c.args.left.now) (tree_of c.args.right.now) c.requires.standing, cells_still o c.args.maker.now c.form_at.new.maker c.in_ok-l.ensures.made.adds.grows c.requires.cells))

pub pair_at-operated-requires-clause-operands : goal.pair_at-operated-requires-clause-operands
pair_at-operated-requires-clause-operands t c =
    let o = c.args.scene.now.objects.now in
    let this = c.args.scene.now.this in
    let vars = c.args.scene.now.vars.now in
    let known = c.args.scene.now.known.now in
    operands o known this vars c.args.maker.now c.form_at.new.maker c.form_at-2.new.maker 0 c.args.op (tree_of c.args.left.now) (tree_of c.args.right.now) c.in_ok-l.l c.in_ok-r.r c.requires.standing c.in_ok-l.ensures.made c.in_ok-r.ensures.made

pub pair_at-operated-requires-clause-left : goal.pair_at-operated-requires-clause-left
pair_at-operated-requires-clause-left t c =
    let o = c.args.scene.now.objects.now in
    let this = c.args.scene.now.this in
    let vars = c.args.scene.now.vars.now in
    let known = c.args.scene.now.known.now in
    left_usable o known this vars c.args.maker.now c.form_at.new.maker c.form_at-2.new.maker 0 c.args.op (tree_of c.args.left.now) (tree_of c.args.right.now) c.in_ok-l.l c.in_ok-r.r c.requires.standing c.in_ok-l.ensures.made c.in_ok-r.ensures.made

pub pair_at-operated-requires-clause-right : goal.pair_at-operated-requires-clause-right
pair_at-operated-requires-clause-right t c =
    let o = c.args.scene.now.objects.now in
    let this = c.args.scene.now.this in
    let vars = c.args.scene.now.vars.now in
    let known = c.args.scene.now.known.now in
    right_usable o known this vars c.args.maker.now c.form_at.new.maker c.form_at-2.new.maker 0 c.args.op (tree_of c.args.left.now) (tree_of c.args.right.now) c.in_ok-l.l c.in_ok-r.r c.requires.standing c.in_ok-l.ensures.made c.in_ok-r.ensures.made

pub pair_at-returns : goal.pair_at-returns
pair_at-returns t c =
    let o = c.args.scene.now.objects.now in
    let this = c.args.scene.now.this in
    let vars = c.args.scene.now.vars.now in
    let known = c.args.scene.now.known.now in
    record { made = made_pair o known this vars c.args.maker.now c.form_at.new.maker c.form_at-2.new.maker 0 c.args.op (tree_of c.args.left.now) (tree_of c.args.right.now) c.in_ok-l.l c.in_ok-r.r c.requires.standing c.in_ok-l.ensures.made c.in_ok-r.ensures.made c.operated.new.maker c.in_ok-f.f c.in_ok-f.ensures.adds c.in_ok-f.ensures.operated }

pub dot_at-attribute_at-requires-clause-shape : goal.dot_at-attribute_at-requires-clause-shape
dot_at-attribute_at-requires-clause-shape t c =
    let o = c.args.scene.now.objects.now in
    let this = c.args.scene.now.this in
    let vars = c.args.scene.now.vars.now in
    let known = c.args.scene.now.known.now in
    let g = c.form_at.new.maker in
    let h = chosen_shapes o g known this vars 0 c.args.k (tree_of c.args.inner.now) c.args.shape c.in_ok-f.f c.count-count.ensures.sound c.requires.standing c.in_ok-f.ensures.made.form in
    fixed_shape o g known this vars c.args.k c.args.shape (choice_part c.in_ok-f.f) c.in-Fixed.n (sym c.choice_of-choice.ensures ∙ c.in-Fixed.is) h.0

pub dot_at-attribute_at-requires-clause-narrow : goal.dot_at-attribute_at-requires-clause-narrow
dot_at-attribute_at-requires-clause-narrow t c =
    narrow_interval c.args.scene.now.objects.now (tree.Dot 0 (tree_of c.args.inner.now) c.args.k c.args.shape) c.requires.standing.numbers

pub dot_at-attribute_at-requires-clause-cells : goal.dot_at-attribute_at-requires-clause-cells
dot_at-attribute_at-requires-clause-cells t c =
    cells_still c.args.scene.now.objects.now c.args.maker.now c.form_at.new.maker c.in_ok-f.ensures.made.adds.grows c.requires.cells

pub dot_at-returns-in-Fixed : goal.dot_at-returns-in-Fixed
dot_at-returns-in-Fixed t c =
    let o = c.args.scene.now.objects.now in
    let this = c.args.scene.now.this in
    let vars = c.args.scene.now.vars.now in
    let known = c.args.scene.now.known.now in
    let f = c.in_ok-f.f in
    record { made = made_fixed_dot o known this vars c.args.maker.now c.form_at.new.maker 0 c.args.k (tree_of c.args.inner.now) c.args.shape f c.in_ok-r.r c.in-Fixed.n c.requires.standing c.in_ok-f.ensures.made (sym c.choice_of-choice.ensures ∙ c.in-Fixed.is) c.in_ok-r.ensures.form }

pub dot_at-dot_form-requires-clause-choice : goal.dot_at-dot_form-requires-clause-choice
dot_at-dot_form-requires-clause-choice t c =
    let o = c.args.scene.now.objects.now in
    let this = c.args.scene.now.this in
    let vars = c.args.scene.now.vars.now in
    let known = c.args.scene.now.known.now in
    let h = chosen_shapes o c.form_at.new.maker known this vars 0 c.args.k (tree_of c.args.inner.now) c.args.shape c.in_ok-f.f c.count-count.ensures.sound c.requires.standing c.in_ok-f.ensures.made.form in
    subst (IsChoiceOf c.form_at.new.maker.domains (HaveShape o c.args.k c.args.shape)) (sym c.choice_of-choice.ensures) h.0

pub dot_at-dot_form-requires-clause-class : goal.dot_at-dot_form-requires-clause-class
dot_at-dot_form-requires-clause-class t c =
    let o = c.args.scene.now.objects.now in
    let this = c.args.scene.now.this in
    let vars = c.args.scene.now.vars.now in
    let known = c.args.scene.now.known.now in
    let g = c.form_at.new.maker in
    let h = chosen_shapes o g known this vars 0 c.args.k (tree_of c.args.inner.now) c.args.shape c.in_ok-f.f c.count-count.ensures.sound c.requires.standing c.in_ok-f.ensures.made.form in
    subst (λ (n : ℕ). IsFrom o g.domains n c.choice_of-choice.result) (sym c.class_of-class.ensures) (subst (IsFrom o g.domains (class_part c.in_ok-f.f)) (sym c.choice_of-choice.ensures) h.1)

pub dot_at-dot_form-requires-clause-cells : goal.dot_at-dot_form-requires-clause-cells
dot_at-dot_form-requires-clause-cells t c =
    let o = c.args.scene.now.objects.now in
    let this = c.args.scene.now.this in
    let vars = c.args.scene.now.vars.now in
    let known = c.args.scene.now.known.now in
    cells_still o c.args.maker.now c.form_at.new.maker c.in_ok-f.ensures.made.adds.grows c.requires.cells

pub dot_at-returns : goal.dot_at-returns
dot_at-returns t c =
    let o = c.args.scene.now.objects.now in
    let this = c.args.scene.now.this in
    let vars = c.args.scene.now.vars.now in
    let known = c.args.scene.now.known.now in
    let new = c.dot_form.new.maker in
    let f = c.in_ok-f.f in
    let dot = subst (λ (n : ℕ). IsDotForm o new n (choice_part f) c.args.k c.args.shape c.in_ok-r-2.r) c.class_of-class.ensures (subst (λ (z : Choice). IsDotForm o new c.class_of-class.result z c.args.k c.args.shape c.in_ok-r-2.r) c.choice_of-choice.ensures c.in_ok-r-2.ensures.dot) in
    record { made = made_dot o known this vars c.args.maker.now c.form_at.new.maker new 0 c.args.k (tree_of c.args.inner.now) c.args.shape f c.in_ok-r-2.r c.requires.standing c.in_ok-f.ensures.made c.in_ok-r-2.ensures.adds dot (not_fixed (choice_part f) (λ n e. c.in_default.not-Fixed n (c.choice_of-choice.ensures ∙ e))) }

pub form_at-quant_at-requires : goal.form_at-quant_at-requires
form_at-quant_at-requires t c =
    let o = c.args.scene.now.objects.now in
    let this = c.args.scene.now.this in
    let vars = c.args.scene.now.vars.now in
    let known = c.args.scene.now.known.now in
    let at = c.args.e.now.at in
    let is = ap (λ n. node_tree n at) c.in-Quant.is ∙ ap (λ q. quant_tree q at) (sym c.deref-in-Quant.ensures) in
    let q = c.deref-in-Quant.result.now in
    let low = ap height is in
    let same = quant_height q at 0 in
    let high = ap height (quant_is q 0) in
    (omega (arith, c.decreases, low, same, high), (quant_moved o [] (bare_setting o this vars) q at 0 (stand_at o known this vars (tree_of c.args.e.now) (quant_tree q at) is c.requires.standing), c.requires.cells))

pub form_at-returns-in-Quant : goal.form_at-returns-in-Quant
form_at-returns-in-Quant t c =
    let o = c.args.scene.now.objects.now in
    let this = c.args.scene.now.this in
    let vars = c.args.scene.now.vars.now in
    let known = c.args.scene.now.known.now in
    let at = c.args.e.now.at in
    let is = ap (λ n. node_tree n at) c.in-Quant.is ∙ ap (λ q. quant_tree q at) (sym c.deref-in-Quant.ensures) in
    let q = c.deref-in-Quant.result.now in
    record {
      made = IfOk-weaker c.quant_at.result _ _ (λ f h. made_at o known this vars c.args.maker.now c.quant_at.new.maker (tree_of c.args.e.now) (quant_tree q at) f is (made_moved o known this vars c.args.maker.now c.quant_at.new.maker q 0 at f h)) c.quant_at.ensures.made;
    }

pub quant_at-quantified-requires-clause-parts : goal.quant_at-quantified-requires-clause-parts
quant_at-quantified-requires-clause-parts t c =
    let o = c.args.scene.now.objects.now in
    let this = c.args.scene.now.this in
    let vars = c.args.scene.now.vars.now in
    let known = c.args.scene.now.known.now in
    let q = quant.out-RQuant c.args.quant.now in
    let g = c.own_parts_at.new.maker in
    let st = subst (λ (z : Tree). IsStanding o z this vars) (quant_is c.args.quant.now 0) c.requires.standing in
    subst (AreParts g.domains q.kind) (sym c.as_slice.ensures.value) (quant_parts o known this vars c.own_parts_at.new.maker 0 q.kind (tree_of q.over) (optional_tree q.filter) (trees_of q.body.items) c.in_ok-parts.parts.items st c.in_ok-parts.ensures.parts)

pub quant_at-quantified-requires-clause-alike : goal.quant_at-quantified-requires-clause-alike
quant_at-quantified-requires-clause-alike t c =
    let o = c.args.scene.now.objects.now in
    let this = c.args.scene.now.this in
    let vars = c.args.scene.now.vars.now in
    let known = c.args.scene.now.known.now in
    let q = quant.out-RQuant c.args.quant.now in
    let g = c.own_parts_at.new.maker in
    let st = subst (λ (z : Tree). IsStanding o z this vars) (quant_is c.args.quant.now 0) c.requires.standing in
    λ k. subst (AreAlike g.domains) (sym c.as_slice.ensures.value) (quant_alike o known this vars c.own_parts_at.new.maker 0 q.kind (tree_of q.over) (optional_tree q.filter) (trees_of q.body.items) c.in_ok-parts.parts.items st c.in_ok-parts.ensures.parts k)

pub quant_at-quantified-requires-clause-sizes : goal.quant_at-quantified-requires-clause-sizes
quant_at-quantified-requires-clause-sizes t c =
    let o = c.args.scene.now.objects.now in
    let this = c.args.scene.now.this in
    let vars = c.args.scene.now.vars.now in
    let known = c.args.scene.now.known.now in
    let q = quant.out-RQuant c.args.quant.now in
    let g = c.own_parts_at.new.maker in
    let st = subst (λ (z : Tree). IsStanding o z this vars) (quant_is c.args.quant.now 0) c.requires.standing in
    λ e. subst (AreSizes g.domains) (sym c.as_slice.ensures.value) (quant_sized o known this vars c.own_parts_at.new.maker 0 q.kind (tree_of q.over) (optional_tree q.filter) (trees_of q.body.items) c.in_ok-parts.parts.items st c.in_ok-parts.ensures.parts e)

pub quant_at-returns : goal.quant_at-returns
quant_at-returns t c =
    let o = c.args.scene.now.objects.now in
    let this = c.args.scene.now.this in
    let vars = c.args.scene.now.vars.now in
    let known = c.args.scene.now.known.now in
    let q = quant.out-RQuant c.args.quant.now in
    let mid = c.own_parts_at.new.maker in
    let new = c.quantified.new.maker in
    let st = subst (λ (z : Tree). IsStanding o z this vars) (quant_is c.args.quant.now 0) c.requires.standing in
    record {
      made = subst (λ (z : Tree). IsMade o known c.args.maker.now new z this vars c.in_ok-f.f) (sym (quant_is c.args.quant.now 0))
          (made_quant o known this vars c.own_parts_at.new.maker 0 q.kind (tree_of q.over) (optional_tree q.filter) (trees_of q.body.items) c.in_ok-parts.parts.items st c.in_ok-parts.ensures.parts c.args.maker.now new c.in_ok-f.f c.in_ok-parts.ensures.adds c.in_ok-f.ensures.adds
          (subst (λ (ps : List Part). IsQuantified mid new q.kind ps c.in_ok-f.f) c.as_slice.ensures.value c.in_ok-f.ensures.form));
    }

pub parts_at-parts_over-requires : goal.parts_at-parts_over-requires
parts_at-parts_over-requires t c =
    let o = c.args.scene.now.objects.now in
    let this = c.args.scene.now.this in
    let vars = c.args.scene.now.vars.now in
    let known = c.args.scene.now.known.now in
    let g = c.list_at.new.maker in
    let ms = c.in_ok-members.members.items in
    let are = c.in_ok-members.ensures.members in
    let inside = members_inside o known this vars g (tree_of c.args.over.now) (optional_tree c.args.filter.now) (trees_of c.args.body.now) ms c.requires.over are in (
      omega (arith, c.decreases),
      (
        subst (λ (xs : List Member). All (λ (m : Member). IsInside o (optional_tree c.args.filter.now) (trees_of c.args.body.now) this (vars ++ m.object ∷ [])) xs) (sym c.as_slice.ensures.value) inside,
        (
          subst (λ (xs : List Member). All (λ (m : Member). HasVariable (length g.domains) m.is) xs) (sym c.as_slice.ensures.value) are.variables,
          cells_still o c.args.maker.now g c.in_ok-members.ensures.adds.grows c.requires.cells,
        ),
      ),
    )

pub parts_at-returns-clause-parts : goal.parts_at-returns-clause-parts
parts_at-returns-clause-parts t c =
    let o = c.args.scene.now.objects.now in
    let this = c.args.scene.now.this in
    let vars = c.args.scene.now.vars.now in
    let known = c.args.scene.now.known.now in
    let f = optional_tree c.args.filter.now in
    let bs = trees_of c.args.body.now in
    let new = c.parts_over.new.maker in
    let ms = c.in_ok-members.members.items in
    let ps = c.in_ok-parts.parts.items in
    let more = c.in_ok-parts.ensures in
    let same = c.as_slice.ensures.value in
    over_parts o known this vars c.list_at.new.maker new (tree_of c.args.over.now) f bs ms ps c.in_ok-members.ensures.members more.adds
    (subst (λ (xs : List Member). (a : List ℤ) → IsWorld new a → AreKnown known a → kept_values ps a ≡ given (λ x. keeps f (world_setting o new a this (vars ++ x ∷ []))) (λ x. values_of bs (world_setting o new a this (vars ++ x ∷ []))) xs a) same more.value)
    (subst (λ (xs : List Member). (p : Place) → All (λ (m : Member). Fits o [] p (bare_setting o this (vars ++ m.object ∷ []))) xs → All (IsPartOf o new.domains p this bs) ps) same more.each)
    (subst (λ (xs : List Member). length ps ≤ length xs) same more.few)
    (subst (λ (xs : List Member). f ≡ NoFilter → All (λ (m : Member). m.is ≡ truth.Fixed true) xs → AreKept ps) same more.kept)

pub parts_at-returns-clause-adds : goal.parts_at-returns-clause-adds
parts_at-returns-clause-adds t c =
    let o = c.args.scene.now.objects.now in
    let this = c.args.scene.now.this in
    let vars = c.args.scene.now.vars.now in
    let known = c.args.scene.now.known.now in
    defines_more c.args.maker.now c.list_at.new.maker c.parts_over.new.maker c.in_ok-members.ensures.adds c.in_ok-parts.ensures.adds

pub parts_over-loop-m-init : goal.parts_over-loop-m-init
parts_over-loop-m-init t c =
    let o = c.args.scene.now.objects.now in
    let this = c.args.scene.now.this in
    let bs = trees_of c.args.body.now in
    record {
      room = c.in_ok-inner.ensures.room;
      value = λ a w kn. none_kept c.new-parts.result.items _ a c.new-parts.ensures.items;
      each = λ p fits. subst (All (IsPartOf o c.args.maker.now.domains p this bs)) (sym c.new-parts.ensures.items) (All-nil (IsPartOf o c.args.maker.now.domains p this bs));
      few = let none = ap length c.new-parts.ensures.items in omega (arith, none);
      kept = λ none sure. subst AreKept (sym c.new-parts.ensures.items) (All-nil (λ (p : Part). p.kept ≡ truth.Fixed true));
      adds = adds_nothing [] c.args.maker.now;
    }

pub parts_over-push_part-requires : goal.parts_over-push_part-requires
parts_over-push_part-requires t c =
    let o = c.args.scene.now.objects.now in
    let this = c.args.scene.now.this in
    let vars = c.args.scene.now.vars.now in
    let known = c.args.scene.now.known.now in
    let f = optional_tree c.args.filter.now in
    let bs = trees_of c.args.body.now in
    let m = c.m-item.result in
    let set = c.set_last.ensures.set vars c.loop-m.invariant.room in
    let there = c.inside-inside.ensures in
    let at = there.vars ∙ c.deref.ensures.value ∙ set in
    let now = c.inside-inside.result in
    let here = item_at (λ (x : Member). IsInside o f bs this (vars ++ x.object ∷ [])) c.args.members.now c.loop-m.m-index m c.loop-m-test.true c.m-item.is c.requires.inside in (
      omega (arith, c.decreases),
      (
        at_scene (λ x y z. IsInside x f bs y z) o now.objects.now this now.this (vars ++ m.object ∷ []) now.vars.now there.objects there.this at here,
        (
          variable_kept c.args.maker.now.domains c.loop-m.maker.domains (boxes_kept c.args.maker.now c.loop-m.maker c.loop-m.invariant.adds.grows) m.is (item_at (λ (x : Member). HasVariable (length c.args.maker.now.domains) x.is) c.args.members.now c.loop-m.m-index m c.loop-m-test.true c.m-item.is c.requires.variables),
          at_scene (λ x y z. HasCells x c.loop-m.maker) o now.objects.now this now.this (vars ++ m.object ∷ []) now.vars.now there.objects there.this at (cells_still o c.args.maker.now c.loop-m.maker c.loop-m.invariant.adds.grows c.requires.cells),
        ),
      ),
    )

pub parts_over-loop-m-preserved : goal.parts_over-loop-m-preserved
parts_over-loop-m-preserved t c =
    let o = c.args.scene.now.objects.now in
    let this = c.args.scene.now.this in
    let vars = c.args.scene.now.vars.now in
    let known = c.args.scene.now.known.now in
    let f = optional_tree c.args.filter.now in
    let bs = trees_of c.args.body.now in
    let m = c.m-item.result in
    let old = c.loop-m.maker in
    let new = c.push_part.new.maker in
    let set = c.set_last.ensures.set vars c.loop-m.invariant.room in
    let there = c.inside-inside.ensures in
    let at = there.vars ∙ c.deref.ensures.value ∙ set in
    let now = c.inside-inside.result in
    let more = c.in_ok-push_part.ensures in
    let ps = c.loop-m.parts.items in
    let qs = c.push_part.new.parts.items in
    record {
      room = record { last = m.object; is = set };
      value = part_next o known this vars old new f bs c.args.members.now c.loop-m.m-index m ps qs more.adds.grows c.loop-m-test.true c.m-item.is c.loop-m.invariant.value
          (λ a w kn.
          at_scene (λ x y z. kept_values qs a ≡ kept_values ps a ++ cond (truth_at m.is a && keeps f (world_setting x new a y z)) (values_of bs (world_setting x new a y z) ∷ []) [])
          now.objects.now o now.this this now.vars.now (vars ++ m.object ∷ []) (sym there.objects) (sym there.this) (sym at) (more.value a w (subst (λ (ks : List (ℕ × ℤ)). AreKnown ks a) (sym there.known) kn)));
      each = λ p fits.
          let here = item_at (λ (x : Member). Fits o [] p (bare_setting o this (vars ++ x.object ∷ []))) c.args.members.now c.loop-m.m-index m c.loop-m-test.true c.m-item.is fits in
          at_scene (λ x y z. All (IsPartOf x new.domains p y bs) qs) now.objects.now o now.this this now.vars.now (vars ++ m.object ∷ []) (sym there.objects) (sym there.this) (sym at)
          (more.each p (at_scene (λ x y z. Fits x [] p (bare_setting x y z)) o now.objects.now this now.this (vars ++ m.object ∷ []) now.vars.now there.objects there.this at here)
          (at_scene (λ x y z. All (IsPartOf x old.domains p y bs) ps) o now.objects.now this now.this (vars ++ m.object ∷ []) now.vars.now there.objects there.this at (c.loop-m.invariant.each p fits)));
      few = let one = more.few in let before = c.loop-m.invariant.few in omega (arith, one, before);
      kept = λ none sure. more.kept none (item_at (λ (x : Member). x.is ≡ truth.Fixed true) c.args.members.now c.loop-m.m-index m c.loop-m-test.true c.m-item.is sure) (c.loop-m.invariant.kept none sure);
      adds = defines_more c.args.maker.now old new c.loop-m.invariant.adds more.adds;
    }

pub parts_over-returns-clause-value : goal.parts_over-returns-clause-value
parts_over-returns-clause-value t c =
    let o = c.args.scene.now.objects.now in
    let this = c.args.scene.now.this in
    let vars = c.args.scene.now.vars.now in
    let known = c.args.scene.now.known.now in
    part_end o known this vars c.loop-m.maker (optional_tree c.args.filter.now) (trees_of c.args.body.now) c.args.members.now c.loop-m.m-index c.loop-m.parts.items (omega (arith, c.loop-m-test.false)) c.loop-m.invariant.value

pub list_at-members_of-requires : goal.list_at-members_of-requires
list_at-members_of-requires t c =
    let o = c.args.scene.now.objects.now in
    let this = c.args.scene.now.this in
    let vars = c.args.scene.now.vars.now in
    let known = c.args.scene.now.known.now in
    record { members = c.listing_of.ensures.usable c.form_at.new.maker.domains (form_usable o c.form_at.new.maker known (tree_of c.args.e.now) this vars c.in_ok-f.f c.requires.standing c.in_ok-f.ensures.made.form) }

pub list_at-returns-clause-members : goal.list_at-returns-clause-members
list_at-returns-clause-members t c =
    let o = c.args.scene.now.objects.now in
    let this = c.args.scene.now.this in
    let vars = c.args.scene.now.vars.now in
    let known = c.args.scene.now.known.now in
    let more = c.in_ok-ms.ensures in
    members_made o known this vars c.form_at.new.maker c.members_of.new.maker (tree_of c.args.e.now) c.in_ok-f.f c.listing_of.result c.in_ok-ms.ms.items c.in_ok-f.ensures.made.form more.adds c.listing_of.ensures.value c.listing_of.ensures.slots more.members more.objects more.variables c.in_ok-f.ensures.made.fixed c.listing_of.ensures.fixed more.fixed

pub list_at-returns-clause-adds : goal.list_at-returns-clause-adds
list_at-returns-clause-adds t c =
    let o = c.args.scene.now.objects.now in
    let this = c.args.scene.now.this in
    let vars = c.args.scene.now.vars.now in
    let known = c.args.scene.now.known.now in
    defines_more c.args.maker.now c.form_at.new.maker c.members_of.new.maker c.in_ok-f.ensures.made.adds c.in_ok-ms.ensures.adds

pub kept_at-returns-in_ok-t-in-None-clause-kept : goal.kept_at-returns-in_ok-t-in-None-clause-kept
kept_at-returns-in_ok-t-in-None-clause-kept t c =
    let o = c.args.scene.now.objects.now in
    let this = c.args.scene.now.this in
    let vars = c.args.scene.now.vars.now in
    let known = c.args.scene.now.known.now in
    kept_none o known this vars c.args.maker.now c.args.is.now c.in_ok-t-in-None.t c.args.filter.now c.in-None.is c.in_ok-t-in-None.ensures c.requires.is

pub kept_at-returns-in_ok-t-in-None-clause-adds : goal.kept_at-returns-in_ok-t-in-None-clause-adds
kept_at-returns-in_ok-t-in-None-clause-adds t c =
    adds_nothing [] c.args.maker.now

pub kept_at-returns-in_ok-t-in-Some-clause-kept : goal.kept_at-returns-in_ok-t-in-Some-clause-kept
kept_at-returns-in_ok-t-in-Some-clause-kept t c =
    let o = c.args.scene.now.objects.now in
    let this = c.args.scene.now.this in
    let vars = c.args.scene.now.vars.now in
    let known = c.args.scene.now.known.now in
    let more = c.in_ok-t-in-Some.ensures in
    kept_some o known this vars c.form_at.new.maker c.both.new.maker c.args.is.now c.in_ok-t-in-Some.t c.truth_of.result c.args.filter.now c.in-Some.e c.in_ok-f-in-Some.f c.in-Some.is c.truth_of.ensures.truth c.in_ok-f-in-Some.ensures.made.form more.adds.grows more.variable more.value

pub kept_at-returns-in_ok-t-in-Some-clause-adds : goal.kept_at-returns-in_ok-t-in-Some-clause-adds
kept_at-returns-in_ok-t-in-Some-clause-adds t c =
    defines_more c.args.maker.now c.form_at.new.maker c.both.new.maker c.in_ok-f-in-Some.ensures.made.adds c.in_ok-t-in-Some.ensures.adds

pub push_part-bodies_at-requires : goal.push_part-bodies_at-requires
push_part-bodies_at-requires t c =
    let o = c.args.scene.now.objects.now in
    let this = c.args.scene.now.this in
    let vars = c.args.scene.now.vars.now in
    let known = c.args.scene.now.known.now in
    (omega (arith, c.decreases), (c.requires.inside.bodies, cells_still o c.args.maker.now c.kept_at.new.maker c.in_ok-kept.ensures.adds.grows c.requires.cells))

pub push_part-returns-then-is_never-clause-value : goal.push_part-returns-then-is_never-clause-value
push_part-returns-then-is_never-clause-value t c =
    let o = c.args.scene.now.objects.now in
    let this = c.args.scene.now.this in
    let vars = c.args.scene.now.vars.now in
    let known = c.args.scene.now.known.now in
    not_pushed o known this vars c.kept_at.new.maker c.args.is.now c.in_ok-kept.kept (optional_tree c.args.filter.now) (trees_of c.args.body.now) c.args.parts.now.items c.in_ok-kept.ensures.kept (c.is_never.ensures c.if-is_never.true)

pub push_part-returns-then-is_never-clause-each : goal.push_part-returns-then-is_never-clause-each
push_part-returns-then-is_never-clause-each t c p fits =
    parts_kept c.args.scene.now.objects.now c.args.maker.now c.kept_at.new.maker c.in_ok-kept.ensures.adds.grows p c.args.scene.now.this (trees_of c.args.body.now) c.args.parts.now.items

pub push_part-returns-clause-value : goal.push_part-returns-clause-value
push_part-returns-clause-value t c =
    let o = c.args.scene.now.objects.now in
    let this = c.args.scene.now.this in
    let vars = c.args.scene.now.vars.now in
    let known = c.args.scene.now.known.now in
    pushed o known this vars c.kept_at.new.maker c.bodies_at.new.maker c.args.is.now (optional_tree c.args.filter.now) (trees_of c.args.body.now) c.args.parts.now.items c.push.new.self.items (record { kept = c.in_ok-kept.kept; bodies = c.in_ok-bodies.bodies }) c.in_ok-push.ensures.items c.in_ok-kept.ensures.kept c.in_ok-bodies.ensures.adds c.in_ok-bodies.ensures.forms

pub push_part-returns-clause-each : goal.push_part-returns-clause-each
push_part-returns-clause-each t c =
    let o = c.args.scene.now.objects.now in
    let this = c.args.scene.now.this in
    let vars = c.args.scene.now.vars.now in
    let known = c.args.scene.now.known.now in
    pushed_each o known this vars c.args.maker.now c.kept_at.new.maker c.bodies_at.new.maker (trees_of c.args.body.now) c.args.parts.now.items c.push.new.self.items (record { kept = c.in_ok-kept.kept; bodies = c.in_ok-bodies.bodies }) c.in_ok-push.ensures.items c.in_ok-kept.ensures.adds c.in_ok-bodies.ensures.adds
    (variable_kept c.kept_at.new.maker.domains c.bodies_at.new.maker.domains (boxes_kept c.kept_at.new.maker c.bodies_at.new.maker c.in_ok-bodies.ensures.adds.grows) c.in_ok-kept.kept c.in_ok-kept.ensures.kept.variable)
    c.in_ok-bodies.ensures.forms

pub push_part-returns-clause-kept : goal.push_part-returns-clause-kept
push_part-returns-clause-kept t c none sure h =
    pushed_kept c.args.scene.now.objects.now c.args.scene.now.known.now c.args.scene.now.this c.args.scene.now.vars.now c.kept_at.new.maker c.args.is.now (optional_tree c.args.filter.now) c.args.parts.now.items c.push.new.self.items (record { kept = c.in_ok-kept.kept; bodies = c.in_ok-bodies.bodies }) c.in_ok-push.ensures.items c.in_ok-kept.ensures.kept none sure h

pub push_part-returns-clause-adds : goal.push_part-returns-clause-adds
push_part-returns-clause-adds t c =
    defines_more c.args.maker.now c.kept_at.new.maker c.bodies_at.new.maker c.in_ok-kept.ensures.adds c.in_ok-bodies.ensures.adds

pub bodies_at-loop-e-init : goal.bodies_at-loop-e-init
bodies_at-loop-e-init t c =
    let o = c.args.scene.now.objects.now in
    let this = c.args.scene.now.this in
    let vars = c.args.scene.now.vars.now in
    let known = c.args.scene.now.known.now in
    record { forms = no_bodies o known this vars c.args.maker.now c.new-forms.result.items c.new-forms.ensures.items; adds = adds_nothing [] c.args.maker.now }

pub bodies_at-form_at-requires : goal.bodies_at-form_at-requires
bodies_at-form_at-requires t c =
    let o = c.args.scene.now.objects.now in
    let this = c.args.scene.now.this in
    let vars = c.args.scene.now.vars.now in
    let known = c.args.scene.now.known.now in
    let low = nth_low c.args.body.now c.loop-e.e-index c.e-item.result c.loop-e-test.true c.e-item.is in (
      omega (arith, c.decreases, low),
      (
        nth_evaluable o [] (bare_setting o this vars) c.args.body.now c.loop-e.e-index c.e-item.result c.loop-e-test.true c.e-item.is c.requires.bodies,
        cells_still o c.args.maker.now c.loop-e.maker c.loop-e.invariant.adds.grows c.requires.cells,
      ),
    )

pub bodies_at-loop-e-preserved : goal.bodies_at-loop-e-preserved
bodies_at-loop-e-preserved t c =
    let o = c.args.scene.now.objects.now in
    let this = c.args.scene.now.this in
    let vars = c.args.scene.now.vars.now in
    let known = c.args.scene.now.known.now in
    let old = c.loop-e.maker in
    let new = c.form_at.new.maker in
    let made = c.in_ok-f.ensures.made in
    record {
      forms = subst (AreBodies o new known (trees_of (take (c.loop-e.e-index + 1) c.args.body.now)) this vars) (sym c.in_ok-push.ensures.items)
          (bodies_push o this vars new known c.args.body.now c.loop-e.e-index c.e-item.result c.loop-e.forms.items c.in_ok-f.f c.loop-e-test.true c.e-item.is
          (bodies_still o this vars old new known (trees_of (take c.loop-e.e-index c.args.body.now)) c.loop-e.forms.items made.adds.grows c.loop-e.invariant.forms) made.form);
      adds = defines_more c.args.maker.now old new c.loop-e.invariant.adds made.adds;
    }

pub bodies_at-returns-clause-forms : goal.bodies_at-returns-clause-forms
bodies_at-returns-clause-forms t c =
    let o = c.args.scene.now.objects.now in
    let this = c.args.scene.now.this in
    let vars = c.args.scene.now.vars.now in
    let known = c.args.scene.now.known.now in
    all_bodies o known this vars c.loop-e.maker c.args.body.now c.loop-e.e-index c.loop-e.forms.items (omega (arith, c.loop-e-test.false)) c.loop-e.invariant.forms

pub quant_at-own_parts_at-requires : goal.quant_at-own_parts_at-requires
quant_at-own_parts_at-requires t c =
    let low = ap height (quant_is c.args.quant.now 0) in
    (omega (arith, c.decreases, low), (c.requires.standing, c.requires.cells))

pub own_parts_at-parts_at-requires : goal.own_parts_at-parts_at-requires
own_parts_at-parts_at-requires t c =
    let o = c.args.scene.now.objects.now in
    let this = c.args.scene.now.this in
    let vars = c.args.scene.now.vars.now in
    let q = quant.out-RQuant c.args.quant.now in
    let low = ap height (quant_is c.args.quant.now 0) in
    let same = ap (λ (es : List RExpr). bodies_height (trees_of es)) c.deref.ensures.value in
    let st = subst (λ (z : Tree). IsStanding o z this vars) (quant_is c.args.quant.now 0) c.requires.standing in
    let over = over_stands o this vars 0 q.kind (tree_of q.over) (optional_tree q.filter) (trees_of q.body.items) st in (
      omega (arith, c.decreases, low, same),
      (
        subst (λ (es : List RExpr). IsOver o (tree_of q.over) NoFilter (trees_of es) this vars) (sym c.deref.ensures.value) (without_filter o this vars (tree_of q.over) (optional_tree q.filter) (trees_of q.body.items) over),
        c.requires.cells,
      ),
    )

pub own_parts_at-parts_at-requires-in-Forall : goal.own_parts_at-parts_at-requires-in-Forall
own_parts_at-parts_at-requires-in-Forall t c =
    let o = c.args.scene.now.objects.now in
    let this = c.args.scene.now.this in
    let vars = c.args.scene.now.vars.now in
    let q = quant.out-RQuant c.args.quant.now in
    let low = ap height (quant_is c.args.quant.now 0) in
    let same = ap (λ (es : List RExpr). bodies_height (trees_of es)) c.deref-in-Forall.ensures.value in
    let st = subst (λ (z : Tree). IsStanding o z this vars) (quant_is c.args.quant.now 0) c.requires.standing in
    let over = over_stands o this vars 0 q.kind (tree_of q.over) (optional_tree q.filter) (trees_of q.body.items) st in (
      omega (arith, c.decreases, low, same),
      (subst (λ (es : List RExpr). IsOver o (tree_of q.over) (optional_tree q.filter) (trees_of es) this vars) (sym c.deref-in-Forall.ensures.value) over, c.requires.cells),
    )
