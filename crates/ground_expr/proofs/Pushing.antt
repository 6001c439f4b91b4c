-- Expressions that are pushed into a disjunction, part by part.
use Rattle.std.proofs.Common.{◌≡◌, ℕ, Bool, true, false, not, ◌||◌, cond, List, [], ℤ, Option, length, take, refl, sym, ap, ◌∙◌, subst, arith, ◌+◌, ◌<◌, ◌≤◌, get_or}
use Rattle.std.specs.List.{list_any}
use Rattle.std.proofs.lemmas.List.{take_all}
use Rattle.std.proofs.lemmas.List.Folds.{list_any_more}
use Rattle.class_table.specs.Outline.{Outline}
use Rattle.conf_syntax.specs.declared.tree.Op.{Op}
use Rattle.conf_types.specs.declared.tree.RExpr.{RExpr}
use Rattle.conf_types.specs.Trees.{Tree}
use Rattle.conf_types.specs.TreeOf.{tree_of}
use Rattle.conf_types.specs.Trees as tree
use Rattle.conf_eval.specs.Meaning.{value, truth_of}
use Rattle.conf_eval.specs.Meaning.{value as meant}
use Rattle.signed_clause.specs.Clauses.{Literals}
use Rattle.ground_form.specs.declared.ground.Ground.{Ground}
use Rattle.form_build.specs.declared.form.Truth.{Truth}
use Rattle.form_build.specs.Forms.{truth_at, HasVariable}
use Rattle.form_build.specs.Worlds.{IsWorld, Grows}
use Rattle.form_build.proofs.Growth.{world_before, adds_nothing, defines_more}
use Rattle.form_truths.specs.Disjunctions.{disjunction_at, IsWithin}
use Rattle.form_truths.specs.Tests.{wanted}
use Rattle.form_truths.proofs.PartLaws.{exist_kept}
use Rattle.operator_forms.specs.Operating.{AreEither}
use Rattle.expr_forms.specs.declared.form.Form.{Form}
use Rattle.expr_forms.specs.FormValues.{truth_part}
use Rattle.expr_forms.specs.Standing.{world_setting, is_wanted}
use Rattle.ground_expr.specs.Made.{IsMade}
use Rattle.ground_expr.specs.Stated.{Pushes, PushesSome}
use Rattle.ground_expr.proofs.Nodes.{truth_stands}

-- ---- truths that are wanted

pub as_wanted : (want b : Bool) → wanted want b ≡ cond want b (not b)
as_wanted true b = refl
as_wanted false b = refl

pub not_wanted : (want b : Bool) → cond (not want) b (not b) ≡ cond want (not b) (not (not b))
not_wanted true true = refl
not_wanted true false = refl
not_wanted false true = refl
not_wanted false false = refl

moved : (l r b : Bool) → (r || (l || b)) ≡ ((l || r) || b)
moved l r b = grind arith

-- ---- pushes

module _ (o : Outline) (known : List (ℕ × ℤ)) (this : Option ℕ) (vars : List ℕ) where
  -- a later problem has the same configuration in its worlds
  pub still_wanted : (old new : Ground) (t : Tree) (want : Bool) (a : List ℤ) → Grows old new → is_wanted o new t this vars want a ≡ is_wanted o old t this vars want a
  still_wanted old new t want a g =
      let truth = λ (n : ℕ). truth_of (value t (record { outline = o; values = take n a; this = this; vars = vars })) in
      ap (λ (n : ℕ). cond want (truth n) (not (truth n))) g.search

  pub pushes_at : (old new : Ground) (t x : Tree) (want : Bool) (before after : Bool × Literals) → t ≡ x → Pushes o known old new x this vars want before after → Pushes o known old new t this vars want before after
  pushes_at old new t x want before after e h = subst (λ (z : Tree). Pushes o known old new z this vars want before after) (sym e) h

  pub pushes_not : (old new : Ground) (i : ℕ) (t : Tree) (want : Bool) (before after : Bool × Literals) → Pushes o known old new t this vars (not want) before after → Pushes o known old new (tree.Not i t) this vars want before after
  pushes_not old new i t want before after h = record {
    value = λ a w kn. h.value a w kn ∙ ap (λ (b : Bool). b || disjunction_at before a) (not_wanted want (truth_of (value t (world_setting o new a this vars))));
    exist = h.exist;
    adds = h.adds;
  }

  pub pushes_pair : (old mid new : Ground) (i : ℕ) (q : Op) (l r : Tree) (want : Bool) (p : Bool × Bool) (before between after : Bool × Literals) → AreEither q want p →
      Pushes o known old mid l this vars p.0 before between → Pushes o known mid new r this vars p.1 between after → Pushes o known old new (tree.Pair i q l r) this vars want before after
  pushes_pair old mid new i q l r want p before between after either left right = record {
    value = λ a w kn.
        let s = world_setting o new a this vars in
        right.value a w kn
        ∙ ap (λ (b : Bool). is_wanted o new r this vars p.1 a || b) (left.value a (world_before mid new a right.adds.grows w) kn ∙ ap (λ (b : Bool). b || disjunction_at before a) (sym (still_wanted mid new l p.0 a right.adds.grows)))
        ∙ moved (is_wanted o new l this vars p.0 a) (is_wanted o new r this vars p.1 a) (disjunction_at before a)
        ∙ ap (λ (b : Bool). b || disjunction_at before a)
        (sym (ap (λ (b : Bool). b || is_wanted o new r this vars p.1 a) (as_wanted p.0 (truth_of (value l s))))
        ∙ sym (ap (λ (b : Bool). wanted p.0 (truth_of (value l s)) || b) (as_wanted p.1 (truth_of (value r s))))
        ∙ sym (either (value l s) (value r s))
        ∙ as_wanted want _);
    exist = right.exist;
    adds = defines_more old mid new left.adds right.adds;
  }

  pub pushes_form : (old new : Ground) (t : Tree) (f : Form) (u v : Truth) (want : Bool) (before after : Bool × Literals) → IsMade o known old new t this vars f → u ≡ truth_part f → HasVariable (length new.domains) v →
      ((a : List ℤ) → IsWorld new a → truth_at v a ≡ wanted want (truth_at u a)) → IsWithin (length old.domains) before.1 →
      ((a : List ℤ) → disjunction_at after a ≡ (truth_at v a || disjunction_at before a)) → ((n : ℕ) → HasVariable n v → IsWithin n before.1 → IsWithin n after.1) →
      Pushes o known old new t this vars want before after
  pushes_form old new t f u v want before after made is variable value exist pushed there = record {
    value = λ a w kn.
        let b = truth_of (meant t (world_setting o new a this vars)) in
        pushed a
        ∙ ap (λ (z : Bool). z || disjunction_at before a)
        (value a w
        ∙ ap (λ (z : Bool). wanted want z) (ap (λ (z : Truth). truth_at z a) is ∙ sym (truth_stands o new known this vars t f a made.form w kn))
        ∙ as_wanted want b);
    exist = there (length new.domains) variable (exist_kept old new before.1 made.adds.grows exist);
    adds = made.adds;
  }

  -- ---- some of several

  none_yet : (b : Bool) → b ≡ (false || b)
  none_yet b = refl

  pub pushes_none : (g : Ground) (es : List RExpr) (d : Bool × Literals) → IsWithin (length g.domains) d.1 → PushesSome o known g g (take 0 es) this vars d d
  pushes_none g es d exist = record { value = λ a w kn. none_yet (disjunction_at d a); exist = exist; adds = adds_nothing [] g }

  pub pushes_more : (old mid new : Ground) (es : List RExpr) (i : ℕ) (e : RExpr) (before between after : Bool × Literals) → i < length es → e ≡ get_or es i e → PushesSome o known old mid (take i es) this vars before between → Pushes o known mid new (tree_of e) this vars false between after → PushesSome o known old new (take (i + 1) es) this vars before after
  pushes_more old mid new es i e before between after lt is some one = record {
    value = λ a w kn.
        let at = λ (z : RExpr). is_wanted o new (tree_of z) this vars false a in
        one.value a w kn
        ∙ ap (λ (b : Bool). at e || b)
        (some.value a (world_before mid new a one.adds.grows w) kn
        ∙ ap (λ (n : ℕ). list_any (λ (z : RExpr). not (truth_of (meant (tree_of z) (record { outline = o; values = take n a; this = this; vars = vars })))) (take i es) || disjunction_at before a) (sym one.adds.grows.search))
        ∙ moved (list_any at (take i es)) (at e) (disjunction_at before a)
        ∙ ap (λ (b : Bool). b || disjunction_at before a) (ap (λ (z : RExpr). list_any at (take i es) || at z) is ∙ sym (list_any_more at es i e lt));
    exist = one.exist;
    adds = defines_more old mid new some.adds one.adds;
  }

  pub pushes_all : (old new : Ground) (es : List RExpr) (i : ℕ) (before after : Bool × Literals) → length es ≤ i → PushesSome o known old new (take i es) this vars before after → PushesSome o known old new es this vars before after
  pushes_all old new es i before after le h = subst (λ (xs : List RExpr). PushesSome o known old new xs this vars before after) (take_all i es le) h
