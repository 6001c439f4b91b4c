-- What a choice is, by the values of its variable.
use Rattle.std.proofs.Common.{◌≡◌, ℕ, Bool, true, false, cond, ◌||◌, List, [], ◌∷◌, ℤ, pos, Vec, Global, nat_eq, refl, sym, ap, ◌∙◌, subst, arith}
use Rattle.std.specs.Prelude.{nat_abs}
use Rattle.std.specs.Ordering.{int_eq}
use Rattle.std.proofs.lemmas.Bool.{and_parts}
use Rattle.std.proofs.lemmas.Int.{ints}
use Rattle.std.proofs.lemmas.List.Elements.{All-weaker}
use Rattle.signed_clause.specs.Clauses.{Boxes}
use Rattle.ground_form.specs.Meaning.{value_of}
use Rattle.ground_form.specs.WellMade.{distinct_values, lacks_value}
use Rattle.form_build.specs.Worlds.{IsInBoxes}
use Rattle.expr_forms.specs.declared.form.Choice.{Choice}
use Rattle.expr_forms.specs.declared.form.Choice.TheVariants as choice
use Rattle.expr_forms.specs.FormBounds.{IsChoiceOf}
use Rattle.expr_forms.specs.FormValues.{choice_at, number_for}
use Rattle.identity_forms.specs.Choices.{IsChoice, values_where, group, AreGroups}
use Rattle.identity_forms.proofs.SetLaws.{is_among}

-- a choice is one, whatever it is made from
pub choice_is : (boxes : Boxes) (P : ℕ → Type 0) (c : Choice) → IsChoiceOf boxes P c → IsChoice boxes c
choice_is boxes P (choice.Fixed n) h = tt
choice_is boxes P (choice.Cell x) h = (h.0, λ v m. let i = h.1 v m in record { number = i.number; is = i.is; may = tt })
choice_is boxes P (choice.Mapped x map) h =
    (h.0, record { distinct = h.1.distinct; held = h.1.held; may = All-weaker (λ (p : ℤ × ℕ). P p.1) (λ (p : ℤ × ℕ). Unit {0}) (λ p m. tt) map.items h.1.may })

-- ---- values of a map

same_value : (p v : ℤ) → int_eq p v ≡ true → p ≡ v
same_value p v e = grind (arith, ints)

-- a value that no pair has is among no object's
no_value : (test : ℕ → Bool) (v : ℤ) (ps : List (ℤ × ℕ)) → lacks_value v ps ≡ true → is_among (values_where test ps) v ≡ false
no_value test v [] e = refl
no_value test v (p ∷ ps) e = by (int_eq p.0 v) (test p.1) refl e (λ l. no_value test v ps l)
  where
    by : (b t : Bool) → int_eq p.0 v ≡ b → cond b false (lacks_value v ps) ≡ true → (lacks_value v ps ≡ true → is_among (values_where test ps) v ≡ false) → is_among (cond t (p.0 ∷ values_where test ps) (values_where test ps)) v ≡ false
    by true t is l more = absurd cc
    by false true is l more = ap (λ (b : Bool). b || is_among (values_where test ps) v) is ∙ more l
    by false false is l more = more l

-- a value is among those of the objects that pass where its own object does
pub value_passes : (test : ℕ → Bool) (v : ℤ) (ps : List (ℤ × ℕ)) → distinct_values ps ≡ true → lacks_value v ps ≡ false → is_among (values_where test ps) v ≡ test (number_for v ps)
value_passes test v [] d l = absurd cc
value_passes test v (p ∷ ps) d l =
    let parts = and_parts (lacks_value p.0 ps) (distinct_values ps) d in
    by (int_eq p.0 v) (test p.1) refl refl l parts.0 (λ m. value_passes test v ps parts.1 m)
  where
    by : (b t : Bool) → int_eq p.0 v ≡ b → test p.1 ≡ t → cond b false (lacks_value v ps) ≡ false → lacks_value p.0 ps ≡ true → (lacks_value v ps ≡ false → is_among (values_where test ps) v ≡ test (number_for v ps)) →
        is_among (cond t (p.0 ∷ values_where test ps) (values_where test ps)) v ≡ test (cond b p.1 (number_for v ps))
    by true true is e m first more = ap (λ (b : Bool). b || is_among (values_where test ps) v) is ∙ sym e
    by true false is e m first more = no_value test v ps (subst (λ (w : ℤ). lacks_value w ps ≡ true) (same_value p.0 v is) first) ∙ sym e
    by false true is e m first more = ap (λ (b : Bool). b || is_among (values_where test ps) v) is ∙ more m
    by false false is e m first more = more m

-- ---- choices

number_is : (v : ℤ) (n : ℕ) → v ≡ pos n → pos (nat_abs v) ≡ v
number_is v n e = subst (λ (z : ℤ). pos (nat_abs z) ≡ z) (sym e) refl

pub cell_number : (boxes : Boxes) (x : ℕ) (a : List ℤ) → IsChoice boxes (choice.Cell x) → IsInBoxes boxes a → pos (nat_abs (value_of a x)) ≡ value_of a x
cell_number boxes x a h w = let i = h.1 (value_of a x) (w x h.0) in number_is (value_of a x) i.number i.is

-- a value is among those of the objects that pass where the object passes
pub in_by_map : (boxes : Boxes) (c : Choice) (x : ℕ) (map : Vec (ℤ × ℕ) Global) (test : ℕ → Bool) (vs : List ℤ) (a : List ℤ) (t : Bool) → c ≡ choice.Mapped x map → IsChoice boxes c → IsInBoxes boxes a → vs ≡ values_where test map.items → t ≡ is_among vs (value_of a x) → t ≡ test (choice_at c a)
in_by_map boxes c x map test vs a t e h w same is =
    let i : IsChoice boxes (choice.Mapped x map) = subst (IsChoice boxes) e h in
    is ∙ ap (λ (z : List ℤ). is_among z (value_of a x)) same
    ∙ value_passes test (value_of a x) map.items i.1.distinct (i.1.held (value_of a x) (w x i.0))
    ∙ ap (λ (z : Choice). test (choice_at z a)) (sym e)

pub groups_at : {A : Type 0} (c : Choice) (x : ℕ) (map : Vec (ℤ × ℕ) Global) (es : List (ℕ × Vec ℤ A)) → c ≡ choice.Mapped x map → AreGroups c es → (n : ℕ) → group es n ≡ values_where (λ m. nat_eq m n) map.items
groups_at c x map es e h = subst (λ (z : Choice). AreGroups z es) e h
