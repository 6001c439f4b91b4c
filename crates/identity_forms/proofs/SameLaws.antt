-- Whether two choices are the same object.
use Rattle.std.proofs.Common.{◌≡◌, ℕ, Bool, true, false, cond, ◌||◌, ◌&&◌, List, [], ◌∷◌, ℤ, pos, Some, Vec, nat_eq, map, refl, sym, ap, ◌∙◌, subst, arith}
use Rattle.std.specs.Prelude.{nat_abs}
use Rattle.std.specs.List.{list_any}
use Rattle.std.specs.Map.{lookup, keys_of}
use Rattle.std.specs.Ordering.{int_eq}
use Rattle.std.proofs.lemmas.Bool.Decides.{nat_tests}
use Rattle.std.proofs.lemmas.Int.{ints}
use Rattle.signed_clause.specs.Clauses.{Boxes}
use Rattle.ground_form.specs.Meaning.{value_of}
use Rattle.form_build.specs.Worlds.{IsInBoxes}
use Rattle.expr_forms.specs.declared.form.Choice.{Choice}
use Rattle.expr_forms.specs.declared.form.Choice.TheVariants as choice
use Rattle.expr_forms.specs.FormValues.{choice_at, number_for}
use Rattle.identity_forms.specs.Choices.{IsChoice, IsCell, is_mapped, those, group, AreGroups}
use Rattle.identity_forms.proofs.SetLaws.{is_among}
use Rattle.identity_forms.proofs.ChoiceLaws.{cell_number, value_passes}

-- ---- one of some objects

same_both : (m k n : ℕ) → (nat_eq m n && nat_eq k n) ≡ (nat_eq m n && nat_eq m k)
same_both m k n = grind (arith, nat_tests)

-- both are one of the objects where the first is, and the second is the same
any_both : (m k : ℕ) (ns : List ℕ) → list_any (λ n. nat_eq m n && nat_eq k n) ns ≡ (list_any (nat_eq m) ns && nat_eq m k)
any_both m k [] = refl
any_both m k (n ∷ ns) =
    ap (λ (b : Bool). (nat_eq m n && nat_eq k n) || b) (any_both m k ns)
    ∙ ap (λ (b : Bool). b || (list_any (nat_eq m) ns && nat_eq m k)) (same_both m k n)
    ∙ by (nat_eq m n) (list_any (nat_eq m) ns) (nat_eq m k)
  where
    by : (p q r : Bool) → ((p && r) || (q && r)) ≡ ((p || q) && r)
    by true true true = refl
    by true true false = refl
    by true false true = refl
    by true false false = refl
    by false true true = refl
    by false true false = refl
    by false false true = refl
    by false false false = refl

pub both_among : (m k : ℕ) (ns : List ℕ) → list_any (nat_eq m) ns ≡ true → list_any (λ n. nat_eq m n && nat_eq k n) ns ≡ nat_eq m k
both_among m k ns e = any_both m k ns ∙ ap (λ (b : Bool). b && nat_eq m k) e

-- ---- the objects of a map

-- an object with values is among the keys
among_keys : {A : Type 0} (n : ℕ) (v : ℤ) (es : List (ℕ × Vec ℤ A)) → is_among (group es n) v ≡ true → list_any (nat_eq n) (keys_of es) ≡ true
among_keys n v [] h = absurd cc
among_keys n v (e ∷ es) h = by (nat_eq n e.0) h (λ g. among_keys n v es g)
  where
    by : (b : Bool) → is_among (those (cond b (Some e.1) (lookup (nat_eq n) es))) v ≡ true → (is_among (group es n) v ≡ true → list_any (nat_eq n) (keys_of es) ≡ true) → (b || list_any (nat_eq n) (keys_of es)) ≡ true
    by true g more = refl
    by false g more = more g

same_self : (n : ℕ) → nat_eq n n ≡ true
same_self n = grind (arith, nat_tests)

-- whatever a map gives is among the objects that have values
pub mapped_among : {A : Type 0} (boxes : Boxes) (c : Choice) (es : List (ℕ × Vec ℤ A)) (ns : List ℕ) → is_mapped c ≡ true → IsChoice boxes c → AreGroups c es → ns ≡ keys_of es → (a : List ℤ) → IsInBoxes boxes a → list_any (nat_eq (choice_at c a)) ns ≡ true
mapped_among boxes (choice.Fixed n) es ns m h g e a w = absurd cc
mapped_among boxes (choice.Cell x) es ns m h g e a w = absurd cc
mapped_among boxes (choice.Mapped x map) es ns m h g e a w =
    let n = number_for (value_of a x) map.items in
    ap (list_any (nat_eq n)) e
    ∙ among_keys n (value_of a x) es
    (ap (λ (z : List ℤ). is_among z (value_of a x)) (g n) ∙ value_passes (λ k. nat_eq k n) (value_of a x) map.items h.1.distinct (h.1.held (value_of a x) (w x h.0)) ∙ same_self n)

-- ---- two cells

number_same : (m n : ℕ) → int_eq (pos m) (pos n) ≡ nat_eq m n
number_same m n = grind (arith, ints, nat_tests)

pub same_cells : (boxes : Boxes) (c d : Choice) (x y : ℕ) (a : List ℤ) (t : Bool) → IsCell x c → d ≡ choice.Cell y → IsChoice boxes c → IsChoice boxes d → IsInBoxes boxes a → t ≡ int_eq (value_of a x) (value_of a y) → t ≡ nat_eq (choice_at c a) (choice_at d a)
same_cells boxes (choice.Fixed n) d x y a t f e h k w is = absurd f
same_cells boxes (choice.Mapped z map) d x y a t f e h k w is = absurd f
same_cells boxes (choice.Cell z) d x y a t f e h k w is =
    let i : IsChoice boxes (choice.Cell y) = subst (IsChoice boxes) e k in
    is
    ∙ ap (λ (n : ℕ). int_eq (value_of a n) (value_of a y)) (sym f)
    ∙ ap (λ (v : ℤ). int_eq v (value_of a y)) (sym (cell_number boxes z a h w))
    ∙ ap (λ (v : ℤ). int_eq (pos (nat_abs (value_of a z))) v) (sym (cell_number boxes y a i w))
    ∙ number_same (nat_abs (value_of a z)) (nat_abs (value_of a y))
    ∙ ap (λ (q : Choice). nat_eq (nat_abs (value_of a z)) (choice_at q a)) (sym e)
