-- `alldifferent` by the clashes of members.
use Rattle.std.proofs.Common.{◌≡◌, Bool, true, false, not, ◌&&◌, ◌||◌, cond, List, [], ◌∷◌, map, ℤ, refl, sym, ap, ◌∙◌, subst}
use Rattle.std.specs.List.{All, list_any}
use Rattle.std.specs.Ordering.{int_eq}
use Rattle.std.proofs.lemmas.List.Elements.{All-head, All-tail}
use Rattle.conf_syntax.specs.declared.tree.QuantKind.TheVariants as kind
use Rattle.conf_types.specs.declared.types.ExprType.{ExprType}
use Rattle.conf_types.specs.Types.{is_list}
use Rattle.conf_eval.specs.declared.value.Value.{Value}
use Rattle.conf_eval.specs.declared.value.Value.TheVariants.{Truth}
use Rattle.conf_eval.specs.Meaning.{same_value, first_of, all_differ, truth_of}
use Rattle.signed_clause.specs.Clauses.{Boxes}
use Rattle.ground_form.specs.Meaning.{value_of}
use Rattle.form_build.specs.Forms.{truth_at}
use Rattle.quantifier_forms.specs.declared.part.Part.{Part}
use Rattle.quantifier_forms.specs.PartValues.{body_values, kept_values, over_values}
use Rattle.pairwise_forms.specs.declared.members.Keyed.{Keyed}
use Rattle.pairwise_forms.specs.AlikeParts.{AreAlike}
use Rattle.pairwise_forms.specs.KeyValues.{key}
use Rattle.pairwise_forms.specs.Clashing.{clash_at, some_clash, kept_key, part_key}
use Rattle.pairwise_forms.proofs.KeyLaws.{IsOfType, same_by_key, form_of_type, first_value}

-- ---- members by what is seen of them

-- two that are kept, and have one number
abbrev clash : Bool × ℤ → Bool × ℤ → Bool
clash s t = (s.0 && t.0) && int_eq s.1 t.1

abbrev clash_in : List (Bool × ℤ) → Bool
clash_in [] = false
clash_in (s ∷ ss) = list_any (λ t. clash s t) ss || clash_in ss

any_seen : (s : Bool × ℤ) (es : List Keyed) (a : List ℤ) → list_any (λ t. clash s t) (map (λ (e : Keyed). kept_key e a) es) ≡ list_any (λ (f : Keyed). (s.0 && truth_at f.kept a) && int_eq s.1 (value_of a f.key)) es
any_seen s [] a = refl
any_seen s (e ∷ es) a = ap (λ (b : Bool). clash s (kept_key e a) || b) (any_seen s es a)

some_seen : (es : List Keyed) (a : List ℤ) → clash_in (map (λ (e : Keyed). kept_key e a) es) ≡ some_clash es a
some_seen [] a = refl
some_seen (e ∷ es) a =
    ap (λ (b : Bool). b || clash_in (map (λ (f : Keyed). kept_key f a) es)) (any_seen (kept_key e a) es a)
    ∙ ap (λ (b : Bool). list_any (λ f. clash_at e f a) es || b) (some_seen es a)

-- ---- the values at the members that are kept

module _ (t : ExprType) (comparable : is_list t ≡ false) (a : List ℤ) where
  -- the part's first value is of the type
  abbrev IsTyped : Part → Type 0
  IsTyped p = IsOfType t (first_of (body_values p a))

  any_same : (v : Value) (ps : List Part) → IsOfType t v → All IsTyped ps → list_any (same_value v) (map first_of (kept_values ps a)) ≡ list_any (λ u. clash (true, key v) u) (map (λ (p : Part). part_key p a) ps)
  any_same v [] h all = refl
  any_same v (p ∷ ps) h all =
      kept_step (truth_at p.kept a) (body_values p a) (kept_values ps a) (list_any (λ u. clash (true, key v) u) (map (λ (q : Part). part_key q a) ps)) (any_same v ps h (All-tail IsTyped p ps all))
      ∙ ap (λ (b : Bool). (truth_at p.kept a && b) || list_any (λ u. clash (true, key v) u) (map (λ (q : Part). part_key q a) ps)) (same_by_key t v (first_of (body_values p a)) comparable h (All-head IsTyped p ps all))
    where
      kept_step : (k : Bool) (vs : List Value) (vss : List (List Value)) (r : Bool) → list_any (same_value v) (map first_of vss) ≡ r → list_any (same_value v) (map first_of (cond k (vs ∷ vss) vss)) ≡ ((k && same_value v (first_of vs)) || r)
      kept_step true vs vss r e = ap (λ (z : Bool). same_value v (first_of vs) || z) e
      kept_step false vs vss r e = e

  none_here : (n : ℤ) (ss : List (Bool × ℤ)) → list_any (λ u. clash (false, n) u) ss ≡ false
  none_here n [] = refl
  none_here n (s ∷ ss) = none_here n ss

  both_none : (p q : Bool) → (not p && not q) ≡ not (p || q)
  both_none true q = refl
  both_none false q = refl

  differ_step : (k : Bool) (vs : List Value) (vss : List (List Value)) (ss : List (Bool × ℤ)) → list_any (same_value (first_of vs)) (map first_of vss) ≡ list_any (λ u. clash (true, key (first_of vs)) u) ss → all_differ (map first_of vss) ≡ not (clash_in ss) → all_differ (map first_of (cond k (vs ∷ vss) vss)) ≡ not (list_any (λ u. clash (k, key (first_of vs)) u) ss || clash_in ss)
  differ_step true vs vss ss here rest =
      ap (λ (b : Bool). not b && all_differ (map first_of vss)) here
      ∙ ap (λ (b : Bool). not (list_any (λ u. clash (true, key (first_of vs)) u) ss) && b) rest
      ∙ both_none (list_any (λ u. clash (true, key (first_of vs)) u) ss) (clash_in ss)
  differ_step false vs vss ss here rest =
      rest ∙ ap not (ap (λ (b : Bool). b || clash_in ss) (sym (none_here (key (first_of vs)) ss)))

  differ_seen : (ps : List Part) → All IsTyped ps → all_differ (map first_of (kept_values ps a)) ≡ not (clash_in (map (λ (p : Part). part_key p a) ps))
  differ_seen [] all = refl
  differ_seen (p ∷ ps) all =
      differ_step (truth_at p.kept a) (body_values p a) (kept_values ps a) (map (λ (q : Part). part_key q a) ps)
      (any_same (first_of (body_values p a)) ps (All-head IsTyped p ps all) (All-tail IsTyped p ps all))
      (differ_seen ps (All-tail IsTyped p ps all))

-- the first values are of the type
pub first_typed : (boxes : Boxes) (ps : List Part) (a : List ℤ) (h : AreAlike boxes ps) → All (λ p. IsOfType h.type (first_of (body_values p a))) ps
first_typed boxes ps a h k d lt = subst (IsOfType h.type) (first_value _ a) (form_of_type h.outline boxes h.type _ a (h.typed k d lt))

-- no two members clash exactly where the values differ
pub different_is : (boxes : Boxes) (ps : List Part) (es : List Keyed) (a : List ℤ) (t : Bool) → AreAlike boxes ps → map (λ (e : Keyed). kept_key e a) es ≡ map (λ (p : Part). part_key p a) ps → t ≡ not (some_clash es a) → Truth t ≡ over_values kind.AllDifferent (kept_values ps a)
different_is boxes ps es a t h seen e =
    ap (λ (b : Bool). Truth b)
    (e
    ∙ ap not (sym (some_seen es a) ∙ ap clash_in seen)
    ∙ sym (differ_seen h.type h.comparable a ps (first_typed boxes ps a h)))

pub different_said : (boxes : Boxes) (ps : List Part) (es : List Keyed) (a : List ℤ) → AreAlike boxes ps → map (λ (e : Keyed). kept_key e a) es ≡ map (λ (p : Part). part_key p a) ps → not (some_clash es a) ≡ truth_of (over_values kind.AllDifferent (kept_values ps a))
different_said boxes ps es a h seen = ap truth_of (different_is boxes ps es a (not (some_clash es a)) h seen refl)
