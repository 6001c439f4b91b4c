-- The attribute of an object that an expression names: what its form asks for holds where the
-- expression stands, and the form is that of the whole expression.
use Rattle.std.proofs.Common.{◌≡◌, ℕ, true, List, ℤ, Option, Some, take, ap, ◌∙◌, subst}
use Rattle.std.specs.Prelude.{Contains}
use Rattle.std.proofs.lemmas.Bool.{and_parts}
use Rattle.class_table.specs.declared.table.Resolved.{Resolved}
use Rattle.class_table.specs.Outline.{Outline}
use Rattle.class_table.specs.Sound.{IsSound}
use Rattle.conf_types.specs.declared.types.ExprType.{ExprType}
use Rattle.conf_types.specs.Trees.{Tree}
use Rattle.conf_types.specs.Trees as tree
use Rattle.conf_types.specs.Typing.{tree_type}
use Rattle.object_alloc.specs.Cells.{extent}
use Rattle.conf_eval.specs.declared.value.Value.{Value}
use Rattle.conf_eval.specs.Meaning.{object_of, attribute_value}
use Rattle.conf_limits.specs.Measures.{narrow, shape_interval, is_narrow, reach}
use Rattle.conf_eval.proofs.LawsValues.{dotted}
use Rattle.ground_form.specs.declared.ground.Ground.{Ground}
use Rattle.form_build.specs.Worlds.{Grows}
use Rattle.expr_forms.specs.declared.form.Choice.{Choice}
use Rattle.expr_forms.specs.declared.form.Form.{Form}
use Rattle.expr_forms.specs.declared.form.Form.TheVariants as form
use Rattle.expr_forms.specs.FormBounds.{IsChoiceOf, IsFrom, IsFormOf, IsGroundForm}
use Rattle.expr_forms.specs.Standing.{IsStanding}
use Rattle.expr_forms.proofs.Growing.{stands_still}
use Rattle.expr_forms.proofs.Inside.{shape_at}
use Rattle.reference_forms.specs.Candidates.{HaveShape}
use Rattle.reference_forms.specs.Dots.{IsDotForm}
use Rattle.reference_forms.proofs.DotLaws.{choice_weaker}

module _ (o : Outline) (this : Option ℕ) (vars : List ℕ) (i : ℕ) (e : Tree) (k : ℕ) (s : Resolved) where
  -- the attribute's numbers are narrow
  pub dot_narrow : IsStanding o (tree.Dot i e k s) this vars → is_narrow (shape_interval s) ≡ true
  dot_narrow t = (and_parts (narrow o e) (is_narrow (shape_interval s)) t.numbers).1

  module _ (g : Ground) (known : List (ℕ × ℤ)) (d : ℕ) (c : Choice) (before : IsGroundForm o g known e this vars (form.Object d c)) where
    -- each object that the expression may name has the attribute, and a cell's is of the class
    pub dot_choice : IsSound o → IsStanding o (tree.Dot i e k s) this vars → IsChoiceOf g.domains (HaveShape o k s) c × IsFrom o g.domains d c
    dot_choice sound t =
        let at = dotted o (tree_type o e t.place) k s t.type t.typed in
        let named = before.form.typed t.place _ t.setting at.is_object in (
          choice_weaker g.domains (Contains (extent o at.class)) (HaveShape o k s)
              (λ n h. shape_at o this vars sound i e k s t.place t.type at.class n t.typed at.is_object h) c named.0,
          named.1,
        )

    -- the form of the attribute is that of the whole expression
    pub dot_ground : (new : Ground) (f : Form) → Grows g new → IsDotForm o new d c k s f → IsGroundForm o new known (tree.Dot i e k s) this vars f
    dot_ground new f grows h = record {
      stands = λ a w kn.
          ap (λ (v : Value). attribute_value o (take new.search a) (Some (object_of v)) k s)
          (stands_still o g new known e this vars (form.Object d c) grows before.stands a w kn)
          ∙ h.stands a w;
      form = record {
        number = h.number;
        truth = h.truth;
        typed = λ p ty fits is. subst (λ (z : ExprType). IsFormOf o new.domains z f) (dotted o (tree_type o e p) k s ty is).variable.type_is h.typed;
        reached = h.reached (reach o e) before.form.reached;
      };
    }
