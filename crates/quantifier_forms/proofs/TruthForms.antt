-- `forall` and `exists` as forms.
use Rattle.std.proofs.Common.{◌≡◌, not, true, false, List, ℤ, length, refl, sym, subst}
use Rattle.std.specs.List.{list_any}
use Rattle.conf_syntax.specs.declared.tree.QuantKind.{QuantKind}
use Rattle.conf_syntax.specs.declared.tree.QuantKind.TheVariants as kind
use Rattle.ground_form.specs.declared.ground.Ground.{Ground}
use Rattle.form_build.specs.declared.form.Truth.{Truth}
use Rattle.form_build.specs.Forms.{truth_at, HasVariable}
use Rattle.form_build.specs.Worlds.{IsWorld}
use Rattle.expr_forms.specs.declared.form.Form.TheVariants as form
use Rattle.expr_forms.proofs.Trees.{no_number}
use Rattle.quantifier_forms.specs.declared.part.Part.{Part}
use Rattle.quantifier_forms.specs.PartValues.{is_case}
use Rattle.quantifier_forms.specs.Quantified.{IsQuantified}
use Rattle.quantifier_forms.proofs.CaseLaws.{exists_is, forall_is}

module _ (old new : Ground) (q : QuantKind) (ps : List Part) (t : Truth) (variable : HasVariable (length new.domains) t) where
  pub forall_form : q ≡ kind.Forall → ((a : List ℤ) → IsWorld new a → truth_at t a ≡ not (list_any (λ p. is_case false p a) ps)) → IsQuantified old new q ps (form.Truth t)
  forall_form e value = subst (λ (z : QuantKind). IsQuantified old new z ps (form.Truth t)) (sym e) (record {
    value = λ a w. forall_is ps a (truth_at t a) (value a w);
    number = λ first second n h le. no_number new.domains _ _ refl refl;
    truth = variable;
    typed = λ o. tt;
  })

  pub exists_form : q ≡ kind.Exists → ((a : List ℤ) → IsWorld new a → truth_at t a ≡ list_any (λ p. is_case true p a) ps) → IsQuantified old new q ps (form.Truth t)
  exists_form e value = subst (λ (z : QuantKind). IsQuantified old new z ps (form.Truth t)) (sym e) (record {
    value = λ a w. exists_is ps a (truth_at t a) (value a w);
    number = λ first second n h le. no_number new.domains _ _ refl refl;
    truth = variable;
    typed = λ o. tt;
  })
