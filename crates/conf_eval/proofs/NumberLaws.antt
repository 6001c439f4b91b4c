-- The numbers that cells give are small.
use Rattle.std.proofs.Common.{◌≡◌, ℕ, zero, suc, ◌<◌, ◌^◌, List, [], ◌∷◌, Option, ℤ, refl, ap, sym, ◌∙◌, subst, arith, length}
use Rattle.std.specs.Prelude.{All, Contains, nat_abs, slice_get}
use Rattle.std.specs.Option.{option_map_or}
use Rattle.std.proofs.lemmas.List.Elements.{All-head, All-tail}
use Rattle.class_table.specs.declared.table.Enumeration.{Enumeration}
use Rattle.class_table.specs.declared.table.Resolved.{Resolved}
use Rattle.class_table.specs.declared.table.Resolved.TheVariants as shape
use Rattle.class_table.specs.Outline.{Outline}
use Rattle.class_table.specs.Tables.{IsFew}
use Rattle.conf_types.specs.Types.{shape_type}
use Rattle.object_alloc.specs.Groups.{own_cells}
use Rattle.object_alloc.specs.Members.{first_value}
use Rattle.conf_eval.specs.Evaluating.{IsGiven}
use Rattle.conf_eval.specs.Fitting.{HasShape, IsValueOf}
use Rattle.conf_eval.specs.Meaning.{attribute_value}
use Rattle.conf_eval.proofs.LawsClasses.{object_low}
use Rattle.conf_eval.proofs.LawsCells.{attribute_there}

few_values : (es : List Enumeration) (e : ℕ) → All IsFew es → option_map_or (λ (k : Enumeration). length k.values) (slice_get es e) 0 < 2 ^ 32
few_values [] e h = omega arith
few_values (k ∷ ks) zero h = All-head IsFew k ks h
few_values (k ∷ ks) (suc e) h = few_values ks e (All-tail IsFew k ks h)

module _ (o : Outline) (values : List ℤ) (given : IsGiven o values) (owner : Option ℕ) (k : ℕ) where
  typed : (s : Resolved) → HasShape o owner k s → IsValueOf o (shape_type s) (attribute_value o values owner k s)
  typed s h = subst (λ t. IsValueOf o (shape_type t) (attribute_value o values owner k t)) h.shape (attribute_there o given.sound values given.config owner k h.variable h.there h.is).typed

  pub choice_small : (s : Resolved) (e : ℕ) → s ≡ shape.Choice e → HasShape o owner k s → nat_abs (first_value values (own_cells o owner k)) < 2 ^ 32
  choice_small s e is h =
      let t = typed (shape.Choice e) (subst (HasShape o owner k) is h) in
      let few = few_values o.enumerations e given.few_values in
      omega (arith, t.1, few)

  pub ref_small : (s : Resolved) (c : ℕ) → s ≡ shape.Ref c → HasShape o owner k s → nat_abs (first_value values (own_cells o owner k)) < 2 ^ 32
  ref_small s c is h =
      let low = object_low o c _ (typed (shape.Ref c) (subst (HasShape o owner k) is h)) in
      omega (arith, low, given.limits.objects)
