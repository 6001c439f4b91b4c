-- The only variable that can be picked has a value that out can have.
use Rattle.std.proofs.Common.{◌≡◌, ℕ, suc, ◌<◌, Bool, true, false, not, ◌&&◌, ◌||◌, List, [], ◌∷◌, ℤ, length, All, refl, arith, subst, sym, ap, ◌∙◌, inl, inr}
use Rattle.std.specs.Prelude.{◌==◌}
use Rattle.std.proofs.lemmas.Bool.{and_parts, and_from, or_cases}
use Rattle.std.proofs.lemmas.Bool.Decides.{nat_tests}
use Rattle.signed_clause.specs.Ranges.{Ranges, has}
use Rattle.signed_clause.specs.SetAlgebra.{is_disjoint}
use Rattle.signed_clause.specs.Clauses.{Boxes, box_of}
use Rattle.ground_form.specs.declared.con.Con.{Con}
use Rattle.ground_form.specs.declared.con.Con.TheVariants.{ElementDef}
use Rattle.box_rules.specs.Refuted.{none_picked}
use Rattle.rule_law.specs.Reasons.{IsReason}
use Rattle.rule_law.specs.Plans.{literals_of}
use Rattle.box_view.proofs.Leaving.{less_disjoint}
use Rattle.element_prop.specs.declared.element.Further.TheVariants.{OutOfSet}
use Rattle.element_prop.specs.Elements.{pick_plan, all_meet, some_with, some_other, lacks_var, AreHeadsDifferent, IsFurther}
use Rattle.element_prop.proofs.ElementLaws.{IsElement, IsPick, lies_reason}

-- a variable of which an item can be picked is an item's
pub with_named : (items : List (ℤ × ℕ)) (y n : ℕ) (out index : Ranges) (boxes : Boxes) → All (λ t. t.1 < n) items → some_with items y out index boxes ≡ true → y < n
with_named [] y n out index boxes h w = absurd cc
with_named (t ∷ ts) y n out index boxes h w =
    elim (or_cases ((t.1 == y) && (has index t.0 && not (is_disjoint (box_of boxes t.1) out))) (some_with ts y out index boxes) w) [
      | inl e ↦
          let parts = and_parts (t.1 == y) (has index t.0 && not (is_disjoint (box_of boxes t.1) out)) e in
          let same : t.1 ≡ y = by_test t.1 y parts.0 in let here = h 0 t (omega arith) in subst (λ (z : ℕ). z < n) same here
      | inr e ↦ with_named ts y n out index boxes (λ k d lt. h (suc k) d (omega arith)) e
    ]
  where
    by_test : (p q : ℕ) → (p == q) ≡ true → p ≡ q
    by_test p q k = grind (arith, nat_tests)

-- and differs from one that no such item has
different_from : (items : List (ℤ × ℕ)) (y z : ℕ) (out index : Ranges) (boxes : Boxes) → some_with items y out index boxes ≡ true → lacks_var z items index ≡ true → z ≡ y → ⊥
different_from [] y z out index boxes w h e = absurd cc
different_from (t ∷ ts) y z out index boxes w h e =
    let parts = and_parts (not (has index t.0) || not (t.1 == z)) (lacks_var z ts index) h in
    elim (or_cases ((t.1 == y) && (has index t.0 && not (is_disjoint (box_of boxes t.1) out))) (some_with ts y out index boxes) w) [
      | inl k ↦
          let both = and_parts (t.1 == y) (has index t.0 && not (is_disjoint (box_of boxes t.1) out)) k in
          let can = (and_parts (has index t.0) (not (is_disjoint (box_of boxes t.1) out)) both.1).0 in
          let same : (t.1 == z) ≡ true = subst (λ (n : ℕ). (t.1 == n) ≡ true) (sym e) both.0 in
          absurd (grind arith)
      | inr k ↦ different_from ts y z out index boxes k parts.1 e
    ]

-- where its box meets out's in no value, no item can be picked
none_else : (out index : Ranges) (y : ℕ) (items : List (ℤ × ℕ)) (boxes rest : Boxes) → is_disjoint (box_of rest y) out ≡ true → all_meet items out index boxes ≡ true → some_other items y out index boxes ≡ false → none_picked out index items rest ≡ true
none_else out index y [] boxes rest h m n = refl
none_else out index y (t ∷ ts) boxes rest h m n =
    let can = has index t.0 in let disjoint = is_disjoint (box_of boxes t.1) out in
    let parts = and_parts (not can || not disjoint) (all_meet ts out index boxes) m in
    let here : (not (t.1 == y) && (can && not disjoint)) ≡ false = grind arith in
    let more : some_other ts y out index boxes ≡ false = grind arith in
    let P : Bool → Type 0 = λ b. (t.1 == y) ≡ b → (not b && (can && not disjoint)) ≡ false → (not can || is_disjoint (box_of rest t.1) out) ≡ true in
    and_from (not can || is_disjoint (box_of rest t.1) out) (none_picked out index ts rest) ((elim (t.1 == y) as P [
      | true ↦ λ e k. either_true (not can) (is_disjoint (box_of rest t.1) out) (ap (λ (z : ℕ). is_disjoint (box_of rest z) out) (by_test t.1 y e) ∙ h)
      | false ↦ λ e k. unpicked can disjoint (is_disjoint (box_of rest t.1) out) k parts.0
    ]) refl here) (none_else out index y ts boxes rest h parts.1 more)
  where
    by_test : (p q : ℕ) → (p == q) ≡ true → p ≡ q
    by_test p q k = grind (arith, nat_tests)

    either_true : (a b : Bool) → b ≡ true → (a || b) ≡ true
    either_true a b k = grind arith

    unpicked : (a b c : Bool) → (a && not b) ≡ false → (not a || not b) ≡ true → (not a || c) ≡ true
    unpicked a b c h k = grind arith

pub outside_reason : (con : Con) (domains boxes : Boxes) (o x : ℕ) (items : List (ℤ × ℕ)) (y : ℕ) → IsElement con domains boxes o x items → AreHeadsDifferent o x items (box_of boxes x) → All (λ t. t.1 < length boxes) items →
    all_meet items (box_of boxes o) (box_of boxes x) boxes ≡ true → IsFurther items o x boxes (OutOfSet y) → IsReason con domains boxes (literals_of domains (pick_plan domains boxes x (box_of boxes x) y o))
outside_reason con domains boxes o x items y t a named m f =
    let g = t.good in let out = box_of boxes o in let index = box_of boxes x in
    let pick : IsPick domains boxes x y o = record {
      good = g;
      index = t.index;
      first = with_named items y (length boxes) out index boxes named f.0;
      second = t.out;
      first_differs = λ e. different_from items y x out index boxes f.0 a.index_different (sym e);
      second_differs = a.differ;
      different = different_from items y o out index boxes f.0 a.out_different;
    } in
    subst (λ (k : Con). IsReason k domains boxes (literals_of domains (pick_plan domains boxes x index y o))) (sym t.is)
    (lies_reason (ElementDef o x items) domains boxes x y o pick f.2 (λ rest e k l.
    subst (λ (p : Ranges). none_picked p (box_of rest x) items rest ≡ true) (sym l) (subst (λ (q : Ranges). none_picked out q items rest ≡ true) (sym e)
    (none_else out index y items boxes rest (ap (λ (z : Ranges). is_disjoint z out) k ∙ less_disjoint (box_of domains y) out (g.wide y) (g.narrow o)) m f.1))))
