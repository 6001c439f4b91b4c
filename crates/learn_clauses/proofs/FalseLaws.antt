-- Clauses that are false in boxes, by the values that they name.
use Rattle.std.proofs.Common.{◌≡◌, ℕ, suc, ◌<◌, true, false, ◌&&◌, ◌||◌, cond, [], ◌∷◌, length, refl, sym, ap, ◌∙◌, arith, inl, inr, subst, slice_set, ◌==◌}
use Rattle.std.proofs.lemmas.List.{get_or-set_same, get_or-set_other}
use Rattle.std.proofs.lemmas.Bool.{and_parts, cases_eq, ne_eqb, eq-eqb}
use Rattle.signed_clause.specs.Ranges.{Ranges, has, IsSubset, HaveNoCommonValue}
use Rattle.signed_clause.specs.SetAlgebra.{is_disjoint}
use Rattle.signed_clause.specs.Clauses.{Boxes, Literals, box_of, set_of, has_var, false_in, IsClauseFrom, IsClause, AreValid}
use Rattle.signed_clause.proofs.SetFacts.{disjoint_law}
use Rattle.signed_clause.proofs.ResolventLaws.{set_here, set_later, set_below, var_below}

-- ---- one value after the other

pub false_from_sets : (c : Literals) (n : ℕ) (boxes : Boxes) → IsClauseFrom n c → AreValid boxes →
    ((y : ℕ) → HaveNoCommonValue (set_of c y) (box_of boxes y)) → false_in boxes c ≡ true
false_from_sets [] n boxes f a h = refl
false_from_sets (l ∷ c) n boxes f a h =
    let here : is_disjoint l.1 (box_of boxes l.0) ≡ true =
    (disjoint_law l.1 (box_of boxes l.0) f.2 (a l.0)).1
    (λ v e. h l.0 v (ap (λ s. has s v) (set_here l c l.0 refl) ∙ e)) in
    let later : false_in boxes c ≡ true = false_from_sets c (suc l.0) boxes f.3 a (λ y v e.
    elim (cases_eq l.0 y) [
      | inl s ↦
          let none : has (set_of c y) v ≡ false =
          ap (λ z. has z v) (set_below (suc l.0) c y f.3 (omega arith)) in
          absurd (cc)
      | inr s ↦ h y v (ap (λ z. has z v) (set_later l c y s) ∙ e)
    ]) in
    rw (here, later) refl

pub sets_from_false : (c : Literals) (n : ℕ) (boxes : Boxes) → IsClauseFrom n c → AreValid boxes →
    false_in boxes c ≡ true → (y : ℕ) → HaveNoCommonValue (set_of c y) (box_of boxes y)
sets_from_false [] n boxes f a h y v e = absurd (cc)
sets_from_false (l ∷ c) n boxes f a h y v e =
    let parts = and_parts (is_disjoint l.1 (box_of boxes l.0)) (false_in boxes c) h in
    elim (cases_eq l.0 y) [
      | inl s ↦
          let here : has l.1 v ≡ true = sym (ap (λ z. has z v) (set_here l c y s)) ∙ e in
          let out : has (box_of boxes l.0) v ≡ false =
          (disjoint_law l.1 (box_of boxes l.0) f.2 (a l.0)).0 parts.0 v here in
          subst (λ (y : ℕ). has (box_of boxes y) v ≡ false) s out
      | inr s ↦
          sets_from_false c (suc l.0) boxes f.3 a parts.1 y v
          (sym (ap (λ z. has z v) (set_later l c y s)) ∙ e)
    ]

-- a clause that is false in boxes is so in narrower ones
pub false_in-narrower : (c : Literals) (boxes wide : Boxes) → IsClause c → AreValid boxes →
    AreValid wide → ((y : ℕ) → IsSubset (box_of boxes y) (box_of wide y)) →
    false_in wide c ≡ true → false_in boxes c ≡ true
false_in-narrower c boxes wide f a b sub h = false_from_sets c 0 boxes f a (λ y v e.
    let out = sets_from_false c 0 wide f b h y v e in
    (elim (has (box_of boxes y) v) as (λ b. has (box_of boxes y) v ≡ b → b ≡ false) [
      | true ↦ λ i. let there = sub y v i in absurd (cc)
      | false ↦ λ i. refl
    ]) refl)

-- ---- one box is another

-- a clause without the variable does not see its box
pub false_in-unseen : (c : Literals) (boxes : Boxes) (x : ℕ) (b : Ranges) → has_var c x ≡ false →
    false_in (slice_set boxes x b) c ≡ false_in boxes c
false_in-unseen [] boxes x b h = refl
false_in-unseen (l ∷ c) boxes x b h =
    elim (cases_eq l.0 x) [
      | inl e ↦ let is = eq-eqb l.0 x e in absurd (grind arith)
      | inr e ↦
          let rest : has_var c x ≡ false = rw (ne_eqb l.0 x e) at h in
          let at = get_or-set_other boxes x l.0 b [] e in
          let more = false_in-unseen c boxes x b rest in
          rw (at, more) refl
    ]

-- a false clause stays so with another box of x exactly where its set of x is disjoint from that box
pub false_in-set : (c : Literals) (n : ℕ) (boxes : Boxes) (x : ℕ) (b : Ranges) → IsClauseFrom n c →
    x < length boxes → false_in boxes c ≡ true →
    false_in (slice_set boxes x b) c ≡ is_disjoint (set_of c x) b
false_in-set [] n boxes x b f lt h = refl
false_in-set (l ∷ c) n boxes x b f lt h =
    let parts = and_parts (is_disjoint l.1 (box_of boxes l.0)) (false_in boxes c) h in
    elim (cases_eq l.0 x) [
      | inl e ↦
          let at : box_of (slice_set boxes x b) l.0 ≡ b =
          ap (λ y. box_of (slice_set boxes x b) y) e ∙ get_or-set_same boxes x b [] lt in
          let later : false_in (slice_set boxes x b) c ≡ true =
          false_in-unseen c boxes x b (var_below (suc l.0) c x f.3 (omega arith)) ∙ parts.1 in
          let is = set_here l c x e in
          rw (at, later, is)
          (elim (is_disjoint l.1 b) as (λ z. (z && true) ≡ z) [ true ↦ refl | false ↦ refl ])
      | inr e ↦
          let at : is_disjoint l.1 (box_of (slice_set boxes x b) l.0) ≡ true =
          ap (λ z. is_disjoint l.1 z) (get_or-set_other boxes x l.0 b [] e) ∙ parts.0 in
          let more = false_in-set c (suc l.0) boxes x b f.3 lt parts.1 in
          let is = set_later l c x e in
          rw (at, more, is) refl
    ]

-- where a clause's set of x has a value of some box, there is a literal of x
pub has_var-met : (c : Literals) (x : ℕ) (b : Ranges) → is_disjoint (set_of c x) b ≡ false →
    has_var c x ≡ true
has_var-met [] x b h = absurd (cc)
has_var-met (l ∷ c) x b h =
    (elim (l.0 == x) as (λ t. is_disjoint (cond t l.1 (set_of c x)) b ≡ false →
    (t || has_var c x) ≡ true) [
      | true ↦ λ h. refl
      | false ↦ λ h. has_var-met c x b h
    ]) h
