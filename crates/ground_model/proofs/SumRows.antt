-- Sums in parts, and rows that say that one is at most a number.
use Rattle.std.proofs.Common.{◌≡◌, ℕ, true, List, ℤ, ◌+ℤ◌, int_le, Option, Some, None, IfSome, take, sym, ap, ◌∙◌, subst, arith}
use Rattle.std.proofs.lemmas.Int.{ints}
use Rattle.class_table.specs.Outline.{Outline}
use Rattle.conf_syntax.specs.declared.tree.Op.{Op}
use Rattle.conf_syntax.specs.declared.tree.Op.TheVariants as op
use Rattle.conf_syntax.specs.declared.tree.QuantKind.{QuantKind}
use Rattle.conf_types.specs.declared.tree.RQuant as quant
use Rattle.conf_types.specs.Trees.{Tree, Filter, Bodies}
use Rattle.conf_types.specs.TreeOf.{tree_of, trees_of, optional_tree, quant_tree}
use Rattle.conf_types.specs.Trees as tree
use Rattle.conf_eval.specs.Meaning.{value, int_of, objects_of}
use Rattle.conf_eval.proofs.EvalLaws.{quant_is, quant_value}
use Rattle.ground_form.specs.declared.ground.Ground.{Ground}
use Rattle.form_build.specs.declared.form.Linear.{Linear}
use Rattle.form_build.specs.Forms.{linear_at}
use Rattle.form_build.specs.Worlds.{Grows}
use Rattle.form_build.proofs.Growth.{world_before}
use Rattle.expr_forms.specs.declared.form.Form.{Form}
use Rattle.expr_forms.specs.FormBounds.{IsGroundForm}
use Rattle.expr_forms.specs.FormValues.{number_part}
use Rattle.expr_forms.specs.Standing.{world_setting}
use Rattle.expr_forms.proofs.PartValues.{number_part_at}
use Rattle.quantifier_forms.specs.declared.part.Part.{Part}
use Rattle.quantifier_forms.specs.PartValues.{over_values}
use Rattle.quantifier_forms.specs.Quantified.{adds_up}
use Rattle.quantifier_forms.proofs.ShareLaws.{over_shares}
use Rattle.ground_expr.specs.Bodies.{own_filter, ArePartsOf}
use Rattle.ground_expr.proofs.Nodes.{own_quantified}
use Rattle.packed_rows.specs.declared.row.Row.{Row}
use Rattle.packed_rows.specs.Loads.{load_of}
use Rattle.ground_model.specs.Adding.{shares_of, counts, AddsUp, IsRowOf, IsRowFor}

-- what holds of the value of an option, if there is one, in other words
pub some_weaker : {X : Type 0} (P Q : X → Type 0) (o : Option X) → ((x : X) → P x → Q x) → IfSome o P → IfSome o Q
some_weaker P Q (Some x) f h = f x h
some_weaker P Q None f h = h

module _ (o : Outline) (known : List (ℕ × ℤ)) (this : Option ℕ) (vars : List ℕ) where
  -- what a sum's or a count's parts add up to
  parts_add_up : (g : Ground) (i : ℕ) (q : QuantKind) (over : Tree) (f : Filter) (bs : Bodies) (ps : List Part) → adds_up q ≡ true → ArePartsOf o g known over (own_filter q f) bs this vars ps → AddsUp o g known (tree.Quant i q over f bs) this vars q ps
  parts_add_up g i q over f bs ps h are a w kn =
      let s = world_setting o g a this vars in
      ap int_of (own_quantified q f bs s (objects_of (value over s)) ∙ ap (over_values q) (sym (are.value a w kn)) ∙ over_shares q ps a h)

  pub quant_adds_up : (g : Ground) (t : Tree) (r : quant.RQuant) (i : ℕ) (ps : List Part) → t ≡ quant_tree r i → adds_up (quant.out-RQuant r).kind ≡ true →
      ArePartsOf o g known (tree_of (quant.out-RQuant r).over) (own_filter (quant.out-RQuant r).kind (optional_tree (quant.out-RQuant r).filter)) (trees_of (quant.out-RQuant r).body.items) this vars ps → AddsUp o g known t this vars (quant.out-RQuant r).kind ps
  quant_adds_up g t r i ps e h are =
      let q = quant.out-RQuant r in
      subst (λ (z : Tree). AddsUp o g known z this vars q.kind ps) (sym (e ∙ quant_is r i)) (parts_add_up g i q.kind (tree_of q.over) (optional_tree q.filter) (trees_of q.body.items) ps h are)

  -- wherever the quantifier stands in the source
  pub adds_up_moved : (g : Ground) (t : Tree) (r : quant.RQuant) (i j : ℕ) (kind : QuantKind) (ps : List Part) → t ≡ quant_tree r i → AddsUp o g known (quant_tree r j) this vars kind ps → AddsUp o g known t this vars kind ps
  adds_up_moved g t r i j kind ps e h a w kn =
      let s = world_setting o g a this vars in
      ap (λ (z : Tree). int_of (value z s)) e ∙ ap int_of (quant_value s r i j) ∙ h a w kn

  compared : (l room s r : ℤ) → (l +ℤ room) ≡ (s +ℤ r) → int_le s room ≡ int_le l r
  compared l room s r e = grind (arith, ints)

  -- the row of a sum's parts and a number
  pub row_is : (mid new : Ground) (sum most : Tree) (kind : QuantKind) (ps : List Part) (f : Form) (number : Linear) (room : ℤ) (r : Row) → Grows mid new → AddsUp o mid known sum this vars kind ps → IsGroundForm o new known most this vars f →
      number ≡ number_part f → ((a : List ℤ) → linear_at number a ≡ room) → ((a : List ℤ) → counts r room (shares_of kind ps a) a) → IsRowOf o new known sum most this vars r
  row_is mid new sum most kind ps f number room r grows adds form is fixed row a w kn =
      let before = world_before mid new a grows w in
      let first =
      ap (λ (n : ℕ). int_of (value sum (record { outline = o; values = take n a; this = this; vars = vars }))) grows.search
      ∙ adds a before kn in
      let second =
      ap int_of (form.stands a w kn) ∙ sym (number_part_at f a) ∙ sym (ap (λ (n : Linear). linear_at n a) is) ∙ fixed a in
      ap (λ (n : ℤ). int_le n (int_of (value most (world_setting o new a this vars)))) first
      ∙ ap (λ (n : ℤ). int_le (shares_of kind ps a) n) second
      ∙ compared (load_of r.bin r.loads.items a) room (shares_of kind ps a) r.room (row a)

  -- of a comparison
  pub row_for_least : (g : Ground) (t l r : Tree) (i : ℕ) (q : Op) (row : Row) → t ≡ tree.Pair i q l r → q ≡ op.Le → IsRowOf o g known l r this vars row → IsRowFor o g known t this vars row
  row_for_least g t l r i q row e le h = subst (λ (z : Tree). IsRowFor o g known z this vars row) (sym (e ∙ ap (λ (p : Op). tree.Pair i p l r) le)) h

  pub row_for_most : (g : Ground) (t l r : Tree) (i : ℕ) (q : Op) (row : Row) → t ≡ tree.Pair i q l r → q ≡ op.Ge → IsRowOf o g known r l this vars row → IsRowFor o g known t this vars row
  row_for_most g t l r i q row e ge h = subst (λ (z : Tree). IsRowFor o g known z this vars row) (sym (e ∙ ap (λ (p : Op). tree.Pair i p l r) ge)) h
