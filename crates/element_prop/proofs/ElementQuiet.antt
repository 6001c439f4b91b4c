-- An element is quiet of which each index value has an item, each probed value of out is offered,
-- and two items of different variables can be picked, or of the only variable no value is outside
-- out's box.
use Rattle.std.proofs.Common.{◌≡◌, ℕ, zero, suc, ◌<◌, ◌≤◌, Bool, true, false, not, ◌&&◌, ◌||◌, cond, List, [], ◌∷◌, ℤ, length, get_or, refl, arith, subst, sym, ap, ◌∙◌, inl, inr}
use Rattle.std.specs.Prelude.{◌==◌, ◌⊎◌}
use Rattle.std.specs.Ordering.{int_eq}
use Rattle.std.proofs.lemmas.Bool.{and_parts, or_cases, cases_eq, false_from_ne_true}
use Rattle.std.proofs.lemmas.Bool.Decides.{nat_tests, Decides-int_eq}
use Rattle.signed_clause.specs.Ranges.{Ranges, has, count_of, IsValid}
use Rattle.signed_clause.specs.SetAlgebra.{is_disjoint, is_within}
use Rattle.signed_clause.specs.Clauses.{Boxes, box_of}
use Rattle.signed_clause.proofs.SetFacts.{within_law}
use Rattle.ground_form.specs.declared.con.Con.{Con}
use Rattle.ground_form.specs.declared.con.Con.TheVariants.{ElementDef}
use Rattle.ground_form.specs.WellMade.{IsWellMadeCon, lacks_value}
use Rattle.box_rules.specs.Refuted.{none_picked}
use Rattle.box_view.specs.Views.{fixing}
use Rattle.box_rules.specs.Quiet.{probed, quiet}
use Rattle.ground_form.specs.Bounds.{low_of}
use Rattle.box_view.proofs.EndLaws.{AreSets, has_low, single_has}
use Rattle.box_view.proofs.SetLaws.{fixing_same, fixing_other, single-is_disjoint, is_disjoint-single}
use Rattle.box_rules.proofs.QuietFrom.{Each, each_probed}
use Rattle.box_view.proofs.Leaving.{value_valid, has_one}
use Rattle.element_prop.specs.declared.element.Further.TheVariants.{OutOfSet}
use Rattle.element_prop.specs.Elements.{count_possible, all_meet, some_with, some_other, some_offers, all_offered, lacks_var, AreHeadsDifferent, IsIdle, IsFurther}
use Rattle.element_prop.proofs.OfferLaws.{each_offered}
use Rattle.element_prop.proofs.ItemCount.{each_value}
use Rattle.box_rules.proofs.QuietFrom.{each_then, quiet_probed}
use Rattle.element_prop.proofs.ElementLaws.{IsElement}

first_false : (a b : Bool) → a ≡ false → (a && b) ≡ false
first_false a b h = rw h refl

second_false : (a b : Bool) → b ≡ false → (a && b) ≡ false
second_false a b h = grind arith

-- ---- what can be picked

-- an item whose value is one of the set's can be out
value_picked : (out index s : Ranges) (v : ℤ) (items : List (ℤ × ℕ)) (boxes : Boxes) → has index v ≡ true → has s v ≡ true → all_meet items out index boxes ≡ true → lacks_value v items ≡ false → none_picked out s items boxes ≡ false
value_picked out index s v [] boxes h g m l = absurd cc
value_picked out index s v (t ∷ ts) boxes h g m l =
    let parts = and_parts (not (has index t.0) || not (is_disjoint (box_of boxes t.1) out)) (all_meet ts out index boxes) m in
    let P : Bool → Type 0 = λ b. int_eq t.0 v ≡ b → cond b false (lacks_value v ts) ≡ false → none_picked out s (t ∷ ts) boxes ≡ false in
    (elim (int_eq t.0 v) as P [
      | true ↦ λ e k.
          let same = (Decides-int_eq t.0 v).0 e in
          let there : has index t.0 ≡ true = subst (λ (z : ℤ). has index z ≡ true) (sym same) h in
          let here : has s t.0 ≡ true = subst (λ (z : ℤ). has s z ≡ true) (sym same) g in
          let met : is_disjoint (box_of boxes t.1) out ≡ false = by_or (has index t.0) (is_disjoint (box_of boxes t.1) out) parts.0 there in
          first_false (not (has s t.0) || is_disjoint (box_of boxes t.1) out) (none_picked out s ts boxes) (rw (here, met) refl)
      | false ↦ λ e k. second_false (not (has s t.0) || is_disjoint (box_of boxes t.1) out) (none_picked out s ts boxes) (value_picked out index s v ts boxes h g parts.1 k)
    ]) refl l
  where
    by_or : (a b : Bool) → (not a || not b) ≡ true → a ≡ true → b ≡ false
    by_or a b h k = grind arith

-- one of out's values alone is in the box of an item that offers it
offered_picked : (index : Ranges) (v : ℤ) (items : List (ℤ × ℕ)) (boxes : Boxes) → AreSets boxes → some_offers items v index boxes ≡ true → none_picked ((v, v) ∷ []) index items boxes ≡ false
offered_picked index v [] boxes s c = absurd cc
offered_picked index v (t ∷ ts) boxes s c =
    elim (or_cases (has index t.0 && has (box_of boxes t.1) v) (some_offers ts v index boxes) c) [
      | inl e ↦
          let parts = and_parts (has index t.0) (has (box_of boxes t.1) v) e in
          let met : is_disjoint (box_of boxes t.1) ((v, v) ∷ []) ≡ false = single-is_disjoint v (box_of boxes t.1) (value_valid (box_of boxes t.1) v (s t.1) parts.1) (s t.1) ∙ ap (λ (b : Bool). not b) parts.1 in
          let can = parts.0 in
          first_false (not (has index t.0) || is_disjoint (box_of boxes t.1) ((v, v) ∷ [])) (none_picked ((v, v) ∷ []) index ts boxes) (rw (can, met) refl)
      | inr e ↦ second_false (not (has index t.0) || is_disjoint (box_of boxes t.1) ((v, v) ∷ [])) (none_picked ((v, v) ∷ []) index ts boxes) (offered_picked index v ts boxes s e)
    ]

-- an item of another variable than y can be picked whatever y is
other_picked : (out index : Ranges) (y : ℕ) (v : ℤ) (items : List (ℤ × ℕ)) (boxes : Boxes) → some_other items y out index boxes ≡ true → none_picked out index items (fixing boxes y v) ≡ false
other_picked out index y v [] boxes h = absurd cc
other_picked out index y v (t ∷ ts) boxes h =
    elim (or_cases (not (t.1 == y) && (has index t.0 && not (is_disjoint (box_of boxes t.1) out))) (some_other ts y out index boxes) h) [
      | inl e ↦
          let parts = and_parts (not (t.1 == y)) (has index t.0 && not (is_disjoint (box_of boxes t.1) out)) e in
          let more = and_parts (has index t.0) (not (is_disjoint (box_of boxes t.1) out)) parts.1 in
          let same = fixing_other boxes y t.1 v (λ q. let yes : (t.1 == y) ≡ true = grind (arith, nat_tests) in let no = parts.0 in grind arith) in
          let met : is_disjoint (box_of (fixing boxes y v) t.1) out ≡ false = ap (λ (s : Ranges). is_disjoint s out) same ∙ not_true (is_disjoint (box_of boxes t.1) out) more.1 in
          let can = more.0 in
          first_false (not (has index t.0) || is_disjoint (box_of (fixing boxes y v) t.1) out) (none_picked out index ts (fixing boxes y v)) (rw (can, met) refl)
      | inr e ↦ second_false (not (has index t.0) || is_disjoint (box_of (fixing boxes y v) t.1) out) (none_picked out index ts (fixing boxes y v)) (other_picked out index y v ts boxes e)
    ]
  where
    not_true : (b : Bool) → not b ≡ true → b ≡ false
    not_true b k = grind arith

-- and so can one of that variable where nothing is fixed
with_picked : (out index : Ranges) (y : ℕ) (items : List (ℤ × ℕ)) (boxes : Boxes) → some_with items y out index boxes ≡ true → none_picked out index items boxes ≡ false
with_picked out index y [] boxes h = absurd cc
with_picked out index y (t ∷ ts) boxes h =
    let more = with_picked out index y ts boxes in grind arith

-- and where that variable is a value that out can have
within_picked : (out index : Ranges) (y : ℕ) (v : ℤ) (items : List (ℤ × ℕ)) (boxes : Boxes) → y < length boxes → IsValid ((v, v) ∷ []) → IsValid out → has out v ≡ true → some_with items y out index boxes ≡ true →
    none_picked out index items (fixing boxes y v) ≡ false
within_picked out index y v [] boxes lt one f h w = absurd cc
within_picked out index y v (t ∷ ts) boxes lt one f h w =
    elim (or_cases ((t.1 == y) && (has index t.0 && not (is_disjoint (box_of boxes t.1) out))) (some_with ts y out index boxes) w) [
      | inl e ↦
          let parts = and_parts (t.1 == y) (has index t.0 && not (is_disjoint (box_of boxes t.1) out)) e in
          let can = (and_parts (has index t.0) (not (is_disjoint (box_of boxes t.1) out)) parts.1).0 in
          let same : t.1 ≡ y = by_test t.1 y parts.0 in
          let is : box_of (fixing boxes y v) t.1 ≡ (v, v) ∷ [] = ap (λ (z : ℕ). box_of (fixing boxes y v) z) same ∙ fixing_same boxes y v lt in
          let met : is_disjoint (box_of (fixing boxes y v) t.1) out ≡ false = ap (λ (s : Ranges). is_disjoint s out) is ∙ is_disjoint-single v out one f ∙ ap (λ (b : Bool). not b) h in
          first_false (not (has index t.0) || is_disjoint (box_of (fixing boxes y v) t.1) out) (none_picked out index ts (fixing boxes y v)) (rw (can, met) refl)
      | inr e ↦ second_false (not (has index t.0) || is_disjoint (box_of (fixing boxes y v) t.1) out) (none_picked out index ts (fixing boxes y v)) (within_picked out index y v ts boxes lt one f h e)
    ]
  where
    by_test : (p q : ℕ) → (p == q) ≡ true → p ≡ q
    by_test p q k = grind (arith, nat_tests)

-- where y isn't that variable, it is another than y
with_other : (out index : Ranges) (a y : ℕ) (items : List (ℤ × ℕ)) (boxes : Boxes) → (a ≡ y → ⊥) → some_with items a out index boxes ≡ true → some_other items y out index boxes ≡ true
with_other out index a y [] boxes n h = absurd cc
with_other out index a y (t ∷ ts) boxes n h =
    elim (or_cases ((t.1 == a) && (has index t.0 && not (is_disjoint (box_of boxes t.1) out))) (some_with ts a out index boxes) h) [
      | inl e ↦
          let parts = and_parts (t.1 == a) (has index t.0 && not (is_disjoint (box_of boxes t.1) out)) e in
          let same : t.1 ≡ a = by_test t.1 a parts.0 in
          let differs : (t.1 == y) ≡ false = false_from_ne_true (t.1 == y) (λ q. n (sym same ∙ by_test t.1 y q)) in
          let rest = parts.1 in rw (differs, rest) refl
      | inr e ↦ let more = with_other out index a y ts boxes n e in grind arith
    ]
  where
    by_test : (p q : ℕ) → (p == q) ≡ true → p ≡ q
    by_test p q k = grind (arith, nat_tests)

-- other boxes don't matter: those of items whose value none of a part of the index is
same_picked : (out index s : Ranges) (y : ℕ) (v : ℤ) (items : List (ℤ × ℕ)) (boxes : Boxes) → ((w : ℤ) → has s w ≡ true → has index w ≡ true) → lacks_var y items index ≡ true →
    none_picked out s items (fixing boxes y v) ≡ none_picked out s items boxes
same_picked out index s y v [] boxes part h = refl
same_picked out index s y v (t ∷ ts) boxes part h =
    let parts = and_parts (not (has index t.0) || not (t.1 == y)) (lacks_var y ts index) h in
    let more = same_picked out index s y v ts boxes part parts.1 in
    let P : Bool → Type 0 = λ b. has s t.0 ≡ b →
    ((not b || is_disjoint (box_of (fixing boxes y v) t.1) out) && none_picked out s ts (fixing boxes y v)) ≡ ((not b || is_disjoint (box_of boxes t.1) out) && none_picked out s ts boxes) in
    (elim (has s t.0) as P [
      | true ↦ λ k.
          let there = part t.0 k in
          let same = fixing_other boxes y t.1 v (λ e. let yes : (t.1 == y) ≡ true = grind (arith, nat_tests) in absurd (grind arith)) in
          rw (same, more) refl
      | false ↦ λ k. more
    ]) refl

-- ---- quietness

fixed_picked : (domains boxes : Boxes) (con : Con) (o x : ℕ) (items : List (ℤ × ℕ)) → IsElement con domains boxes o x items → IsIdle items o x boxes → (y : ℕ) (v : ℤ) → (o ≡ y → ⊥) → y < length boxes → has (box_of boxes y) v ≡ true →
    none_picked (box_of (fixing boxes y v) o) (box_of (fixing boxes y v) x) items (fixing boxes y v) ≡ false
fixed_picked domains boxes con o x items t i y v n lt h =
    let out = box_of boxes o in let index = box_of boxes x in let valid = t.good.narrow in
    subst (λ (s : Ranges). none_picked s (box_of (fixing boxes y v) x) items (fixing boxes y v) ≡ false) (sym (fixing_other boxes y o v n)) (elim (cases_eq x y) [
      | inl e ↦ subst (λ (z : ℕ). z < length boxes → has (box_of boxes z) v ≡ true → none_picked out (box_of (fixing boxes z v) x) items (fixing boxes z v) ≡ false) e
          (λ l m. subst (λ (s : Ranges). none_picked out s items (fixing boxes x v) ≡ false) (sym (fixing_same boxes x v l))
          (same_picked out index ((v, v) ∷ []) x v items boxes (λ w k. subst (λ (u : ℤ). has index u ≡ true) ((Decides-int_eq v w).0 (sym (single_has v w) ∙ k)) m) i.different.index_different ∙ value_picked out index ((v, v) ∷ []) v items boxes m (has_one v) i.met (each_value items index v (valid x) t.distinct i.full m))) lt h
      | inr e ↦ subst (λ (s : Ranges). none_picked out s items (fixing boxes y v) ≡ false) (sym (fixing_other boxes y x v e)) (elim (cases_eq i.var y) [
        | inr g ↦ other_picked out index y v items boxes (with_other out index i.var y items boxes g i.one)
        | inl g ↦ elim i.free [
          | inl k ↦ other_picked out index y v items boxes (subst (λ (z : ℕ). some_other items z out index boxes ≡ true) g k)
          | inr k ↦ within_picked out index y v items boxes lt (value_valid (box_of boxes y) v (valid y) h) (valid o)
              ((within_law (box_of boxes y) out (valid y) (valid o)).0 (subst (λ (z : ℕ). is_within (box_of boxes z) out ≡ true) g k) v h)
              (subst (λ (z : ℕ). some_with items z out index boxes ≡ true) g i.one)
        ]
      ])
    ])

out_picked : (domains boxes : Boxes) (con : Con) (o x : ℕ) (items : List (ℤ × ℕ)) → IsElement con domains boxes o x items → AreHeadsDifferent o x items (box_of boxes x) → (v : ℤ) → some_offers items v (box_of boxes x) boxes ≡ true →
    none_picked (box_of (fixing boxes o v) o) (box_of (fixing boxes o v) x) items (fixing boxes o v) ≡ false
out_picked domains boxes con o x items t a v h =
    subst (λ (s : Ranges). none_picked s (box_of (fixing boxes o v) x) items (fixing boxes o v) ≡ false) (sym (fixing_same boxes o v t.out))
    (subst (λ (s : Ranges). none_picked ((v, v) ∷ []) s items (fixing boxes o v) ≡ false) (sym (fixing_other boxes o x v (λ e. a.differ (sym e))))
    (same_picked ((v, v) ∷ []) (box_of boxes x) (box_of boxes x) o v items boxes (λ w k. k) a.out_different ∙ offered_picked (box_of boxes x) v items boxes t.good.narrow h))

pub idle_quiet : (con : Con) (domains boxes : Boxes) (o x : ℕ) (items : List (ℤ × ℕ)) → IsElement con domains boxes o x items → IsWellMadeCon domains con → IsIdle items o x boxes → quiet con boxes ≡ true
idle_quiet con domains boxes o x items t w i =
    let m : IsWellMadeCon domains (ElementDef o x items) = subst (λ (k : Con). IsWellMadeCon domains k) t.is w in
    let size = t.good.size in
    let P : ℕ → ℤ → Type 0 = λ y v. none_picked (box_of (fixing boxes y v) o) (box_of (fixing boxes y v) x) items (fixing boxes y v) ≡ false in
    subst (λ (k : Con). quiet k boxes ≡ true) (sym t.is)
    (quiet_probed (ElementDef o x items) boxes (λ k d lt. let n = m.named k d lt in omega arith) t.good.some
    (with_picked (box_of boxes o) (box_of boxes x) i.var items boxes i.one)
    (λ y lt. elim (cases_eq o y) [
      | inl e ↦ subst (λ (z : ℕ). Each (λ v. P z v) (probed (box_of boxes z))) e
          (each_then (λ v. some_offers items v (box_of boxes x) boxes ≡ true) (λ v. P o v) (probed (box_of boxes o)) (λ v h. out_picked domains boxes con o x items t i.different v h)
          (each_offered (probed (box_of boxes o)) items (box_of boxes x) boxes i.offered))
      | inr e ↦ each_probed (λ v. P y v) (box_of boxes y) (t.good.narrow y) (t.good.some y lt) (λ v h. fixed_picked domains boxes con o x items t i y v e lt h)
    ]))

-- some item can be picked, where each value of the index has one that can be out
pub some_open : (con : Con) (domains boxes : Boxes) (o x : ℕ) (items : List (ℤ × ℕ)) → IsElement con domains boxes o x items → all_meet items (box_of boxes o) (box_of boxes x) boxes ≡ true →
    count_of (box_of boxes x) ≤ count_possible items (box_of boxes x) → none_picked (box_of boxes o) (box_of boxes x) items boxes ≡ false
some_open con domains boxes o x items t m f =
    let index = box_of boxes x in let v = low_of index in let here = has_low index (t.good.narrow x) (t.good.some x t.index) in
    value_picked (box_of boxes o) index index v items boxes here here m (each_value items index v (t.good.narrow x) t.distinct f here)

-- the variable of an item that can be picked
pub with_at : (items : List (ℤ × ℕ)) (i : ℕ) (d : ℤ × ℕ) (out index : Ranges) (boxes : Boxes) → i < length items →
    (has index (get_or items i d).0 && not (is_disjoint (box_of boxes (get_or items i d).1) out)) ≡ true → some_with items (get_or items i d).1 out index boxes ≡ true
with_at [] i d out index boxes lt h = absurd (omega arith)
with_at (t ∷ ts) zero d out index boxes lt h =
    let self : (t.1 == t.1) ≡ true = grind (arith, nat_tests) in rw (self, h) refl
with_at (t ∷ ts) (suc i) d out index boxes lt h =
    either_way (t.1 == (get_or ts i d).1 && (has index t.0 && not (is_disjoint (box_of boxes t.1) out))) (some_with ts (get_or ts i d).1 out index boxes) (with_at ts i d out index boxes (omega arith) h)
  where
    either_way : (a b : Bool) → b ≡ true → (a || b) ≡ true
    either_way a b k = grind arith

-- what the tests find, of the boxes that they looked at
pub idle_at : (items : List (ℤ × ℕ)) (o x i : ℕ) (d : ℤ × ℕ) (boxes : Boxes) (out index : Ranges) → out ≡ box_of boxes o → index ≡ box_of boxes x → AreHeadsDifferent o x items (box_of boxes x) →
    all_meet items (box_of boxes o) (box_of boxes x) boxes ≡ true → count_of (box_of boxes x) ≤ count_possible items (box_of boxes x) → all_offered (probed (box_of boxes o)) items (box_of boxes x) boxes ≡ true → i < length items →
    (has index (get_or items i d).0 && not (is_disjoint (box_of boxes (get_or items i d).1) out)) ≡ true →
    (some_other items (get_or items i d).1 out index boxes ≡ true) ⊎ (is_within (box_of boxes (get_or items i d).1) out ≡ true) → IsIdle items o x boxes
idle_at items o x i d boxes out index eo ex s m f a lt h k =
    let y = (get_or items i d).1 in
    let F : Ranges → Ranges → Type 0 = λ p q. (has q (get_or items i d).0 && not (is_disjoint (box_of boxes y) p)) ≡ true → (some_other items y p q boxes ≡ true) ⊎ (is_within (box_of boxes y) p ≡ true) → IsIdle items o x boxes in
    let here : F (box_of boxes o) (box_of boxes x) = λ h2 k2. record { different = s; met = m; full = f; offered = a; var = y; one = with_at items i d (box_of boxes o) (box_of boxes x) boxes lt h2; free = k2 } in
    let there : F out index = subst (λ (q : Ranges). F out q) (sym ex) (subst (λ (p : Ranges). F p (box_of boxes x)) (sym eo) here) in there h k

pub outside_at : (items : List (ℤ × ℕ)) (o x i : ℕ) (d : ℤ × ℕ) (boxes : Boxes) (out index : Ranges) → out ≡ box_of boxes o → index ≡ box_of boxes x → i < length items →
    (has index (get_or items i d).0 && not (is_disjoint (box_of boxes (get_or items i d).1) out)) ≡ true → some_other items (get_or items i d).1 out index boxes ≡ false → is_within (box_of boxes (get_or items i d).1) out ≡ false →
    IsFurther items o x boxes (OutOfSet (get_or items i d).1)
outside_at items o x i d boxes out index eo ex lt h k n =
    let y = (get_or items i d).1 in
    let F : Ranges → Ranges → Type 0 = λ p q. (has q (get_or items i d).0 && not (is_disjoint (box_of boxes y) p)) ≡ true → some_other items y p q boxes ≡ false → is_within (box_of boxes y) p ≡ false → IsFurther items o x boxes (OutOfSet y) in
    let here : F (box_of boxes o) (box_of boxes x) = λ h2 k2 n2. (with_at items i d (box_of boxes o) (box_of boxes x) boxes lt h2, k2, n2) in
    let there : F out index = subst (λ (q : Ranges). F out q) (sym ex) (subst (λ (p : Ranges). F p (box_of boxes x)) (sym eo) here) in there h k n
