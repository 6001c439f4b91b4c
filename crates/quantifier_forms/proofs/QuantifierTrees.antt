-- The form of a quantifier stands for its tree.
use Rattle.std.proofs.Common.{◌≡◌, ℕ, ◌≤◌, Bool, ◌||◌, List, map, ℤ, Option, length, sym, ap, ◌∙◌, subst, arith}
use Rattle.std.specs.Prelude.{filter}
use Rattle.std.specs.List.{All}
use Rattle.class_table.specs.Outline.{Outline}
use Rattle.conf_syntax.specs.declared.tree.QuantKind.{QuantKind}
use Rattle.conf_syntax.specs.declared.tree.QuantKind.TheVariants as kind
use Rattle.conf_types.specs.declared.types.ExprType.{ExprType}
use Rattle.conf_types.specs.Trees.{Tree, Filter, Bodies}
use Rattle.conf_types.specs.Trees as tree
use Rattle.conf_types.specs.Types.{quant_result}
use Rattle.conf_eval.specs.declared.value.Value.{Value}
use Rattle.conf_eval.specs.Meaning.{bind, value, keeps, values_of, objects_of}
use Rattle.conf_limits.specs.Measures.{reach, body_interval}
use Rattle.conf_eval.proofs.LawsNarrow.{narrow_interval}
use Rattle.conf_eval.proofs.LawsValues.{quantifier_typed}
use Rattle.signed_clause.specs.Clauses.{Boxes}
use Rattle.ground_form.specs.declared.ground.Ground.{Ground}
use Rattle.form_build.specs.Worlds.{IsWorld, AreKnown}
use Rattle.expr_forms.specs.declared.form.Form.{Form}
use Rattle.expr_forms.specs.declared.form.Form.TheVariants as form
use Rattle.expr_forms.specs.FormBounds.{IsFormOf, target_count, IsGroundForm}
use Rattle.expr_forms.specs.Standing.{IsStanding, world_setting}
use Rattle.quantifier_forms.specs.declared.part.Part.{Part}
use Rattle.quantifier_forms.specs.PartValues.{kept_values, over_values}
use Rattle.quantifier_forms.specs.Quantified.{IsPart, AreParts, IsQuantified, compares_members}
use Rattle.quantifier_forms.proofs.KeptLaws.{quantified_always}
use Rattle.quantifier_forms.proofs.Narrowness.{narrow_fewer}

-- a number or a truth is no object
no_targets : (o : Outline) (boxes : Boxes) (q : QuantKind) (f : Form) → IsFormOf o boxes (quant_result q) f → target_count o f ≤ 0
no_targets o boxes q (form.Number n) h = omega arith
no_targets o boxes q (form.Truth t) h = omega arith
no_targets o boxes q (form.Choice e c) h = omega arith
no_targets o boxes kind.Forall (form.Object d c) h = absurd h
no_targets o boxes kind.Exists (form.Object d c) h = absurd h
no_targets o boxes kind.Sum (form.Object d c) h = absurd h
no_targets o boxes kind.Count (form.Object d c) h = absurd h
no_targets o boxes kind.AllDifferent (form.Object d c) h = absurd h
no_targets o boxes kind.Pack (form.Object d c) h = absurd h
no_targets o boxes kind.Forall (form.List l) h = absurd h
no_targets o boxes kind.Exists (form.List l) h = absurd h
no_targets o boxes kind.Sum (form.List l) h = absurd h
no_targets o boxes kind.Count (form.List l) h = absurd h
no_targets o boxes kind.AllDifferent (form.List l) h = absurd h
no_targets o boxes kind.Pack (form.List l) h = absurd h

module _ (o : Outline) (this : Option ℕ) (vars : List ℕ) where
  -- parts for at most the members that a quantifier may have, where its tree stands
  pub parts_are : (boxes : Boxes) (i : ℕ) (q : QuantKind) (over : Tree) (flt : Filter) (bs : Bodies) (ps : List Part) → IsStanding o (tree.Quant i q over flt bs) this vars → All (IsPart boxes (body_interval o bs 0)) ps → length ps ≤ reach o over → AreParts boxes q ps
  parts_are boxes i q over flt bs ps e h few = record {
    first = body_interval o bs 0;
    second = body_interval o bs 1;
    parts = h;
    narrow = narrow_fewer q (length ps) (reach o over) (body_interval o bs 0) (body_interval o bs 1) few (narrow_interval o (tree.Quant i q over flt bs) e.numbers);
  }

  -- whether an object meets the filter in a world, and the values of the bodies at it
  abbrev pub meets : Ground → QuantKind → Filter → List ℤ → ℕ → Bool
  meets g q flt a x = compares_members q || keeps flt (bind (world_setting o g a this vars) x)

  abbrev pub bodies_at : Ground → Bodies → List ℤ → ℕ → List Value
  bodies_at g bs a x = values_of bs (bind (world_setting o g a this vars) x)

  pub quantifier_is : (old new : Ground) (known : List (ℕ × ℤ)) (i : ℕ) (q : QuantKind) (over : Tree) (flt : Filter) (bs : Bodies) (ps : List Part) (f : Form) → IsQuantified old new q ps f → All (IsPart old.domains (body_interval o bs 0)) ps → length ps ≤ reach o over →
      ((a : List ℤ) → IsWorld new a → AreKnown known a → kept_values ps a ≡ map (bodies_at new bs a) (filter (meets new q flt a) (objects_of (value over (world_setting o new a this vars))))) →
      IsGroundForm o new known (tree.Quant i q over flt bs) this vars f
  quantifier_is old new known i q over flt bs ps f made parts few kept = record {
    stands = λ a w kn.
        quantified_always (λ x. keeps flt (bind (world_setting o new a this vars) x)) (bodies_at new bs a) q (objects_of (value over (world_setting o new a this vars)))
        ∙ ap (over_values q) (sym (kept a w kn))
        ∙ sym (made.value a w);
    form = record {
      number = made.number (body_interval o bs 0) (body_interval o bs 1) (reach o over) parts few;
      truth = made.truth;
      typed = λ p ty fits is. subst (λ (z : ExprType). IsFormOf o new.domains z f) (quantifier_typed q _ _ ty is).type_is (made.typed o);
      reached = no_targets o new.domains q f (made.typed o);
    };
  }
