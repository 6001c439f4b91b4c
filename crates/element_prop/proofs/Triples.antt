-- Constraints over a flag and two more variables, and the plan that says that one of these lies
-- within the other's box.
use Rattle.std.proofs.Common.{◌≡◌, ℕ, ◌<◌, true, false, [], ◌∷◌, ℤ, pos, length, refl, arith, subst, sym, inl, inr}
use Rattle.std.specs.Prelude.{◌==◌}
use Rattle.std.proofs.lemmas.Bool.{cases_eq, false_from_ne_true}
use Rattle.std.proofs.lemmas.Bool.Decides.{nat_tests}
use Rattle.signed_clause.specs.Ranges.{Ranges, has, IsValid}
use Rattle.signed_clause.specs.SetAlgebra.{is_within, less}
use Rattle.signed_clause.specs.Clauses.{Boxes, box_of}
use Rattle.signed_clause.proofs.RangeSteps.{IsValid-less}
use Rattle.signed_clause.proofs.SetFacts.{within_law}
use Rattle.ground_form.specs.declared.con.Con.{Con}
use Rattle.box_rules.specs.Refuted.{excluded}
use Rattle.box_view.specs.Views.{fixing}
use Rattle.rule_law.specs.Reasons.{no_repeat, Acts, IsReason}
use Rattle.rule_law.specs.Plans.{IsFlag, literals_of}
use Rattle.box_view.proofs.SetLaws.{fixing_same, fixing_other}
use Rattle.box_view.proofs.Leaving.{less_within, missing_within, twice_within, one_within, left_over}
use Rattle.rule_law.proofs.PlanLaws.{ArePlanned, plan_reason, plan_acts_head, plan_acts_tail, plan_acts_over}
use Rattle.rule_law.proofs.FlagPlans.{AreGood, in_domain, flag_other, flag_only, bit_valid}
use Rattle.element_prop.specs.Within.{HasToLie, within_plan}

-- ---- three variables

pub record IsTriple (domains boxes : Boxes) (f x y : ℕ) : Type 0 where
  pub good : AreGood domains boxes
  pub flag : f < length boxes
  pub first : x < length boxes
  pub second : y < length boxes
  pub first_differs : x ≡ f → ⊥
  pub second_differs : y ≡ f → ⊥
  pub different : y ≡ x → ⊥
  pub bits : IsFlag (box_of boxes f)

pub turned : (domains boxes : Boxes) (f x y : ℕ) → IsTriple domains boxes f x y → IsTriple domains boxes f y x
turned domains boxes f x y t = record {
  good = t.good;
  flag = t.flag;
  first = t.second;
  second = t.first;
  first_differs = t.second_differs;
  second_differs = t.first_differs;
  different = λ e. t.different (sym e);
  bits = t.bits;
}

-- what holds of three boxes, and of each value of one of them beside the other two, holds where any
-- box has one of its values alone
pub three_fixed : (P : Ranges → Ranges → Ranges → Type 0) (domains boxes : Boxes) (f x y : ℕ) → IsTriple domains boxes f x y → P (box_of boxes f) (box_of boxes x) (box_of boxes y) →
    ((v : ℤ) → has (box_of boxes f) v ≡ true → P ((v, v) ∷ []) (box_of boxes x) (box_of boxes y)) →
    ((v : ℤ) → has (box_of boxes x) v ≡ true → P (box_of boxes f) ((v, v) ∷ []) (box_of boxes y)) →
    ((v : ℤ) → has (box_of boxes y) v ≡ true → P (box_of boxes f) (box_of boxes x) ((v, v) ∷ [])) →
    (z : ℕ) (v : ℤ) → z < length boxes → has (box_of boxes z) v ≡ true → P (box_of (fixing boxes z v) f) (box_of (fixing boxes z v) x) (box_of (fixing boxes z v) y)
three_fixed P domains boxes f x y t h one two three z v lt k =
    elim (cases_eq f z) [
      | inl e ↦ subst (λ (w : ℕ). w < length boxes → has (box_of boxes w) v ≡ true → P (box_of (fixing boxes w v) f) (box_of (fixing boxes w v) x) (box_of (fixing boxes w v) y)) e
          (λ l m. subst (λ (s : Ranges). P s (box_of (fixing boxes f v) x) (box_of (fixing boxes f v) y)) (sym (fixing_same boxes f v l))
          (subst (λ (s : Ranges). P ((v, v) ∷ []) s (box_of (fixing boxes f v) y)) (sym (fixing_other boxes f x v t.first_differs))
          (subst (λ (s : Ranges). P ((v, v) ∷ []) (box_of boxes x) s) (sym (fixing_other boxes f y v t.second_differs)) (one v m)))) lt k
      | inr e ↦ subst (λ (s : Ranges). P s (box_of (fixing boxes z v) x) (box_of (fixing boxes z v) y)) (sym (fixing_other boxes z f v e)) (elim (cases_eq x z) [
        | inl i ↦ subst (λ (w : ℕ). w < length boxes → has (box_of boxes w) v ≡ true → P (box_of boxes f) (box_of (fixing boxes w v) x) (box_of (fixing boxes w v) y)) i
            (λ l m. subst (λ (s : Ranges). P (box_of boxes f) s (box_of (fixing boxes x v) y)) (sym (fixing_same boxes x v l))
            (subst (λ (s : Ranges). P (box_of boxes f) ((v, v) ∷ []) s) (sym (fixing_other boxes x y v t.different)) (two v m))) lt k
        | inr i ↦ subst (λ (s : Ranges). P (box_of boxes f) s (box_of (fixing boxes z v) y)) (sym (fixing_other boxes z x v i)) (elim (cases_eq y z) [
          | inl j ↦ subst (λ (w : ℕ). w < length boxes → has (box_of boxes w) v ≡ true → P (box_of boxes f) (box_of boxes x) (box_of (fixing boxes w v) y)) j
              (λ l m. subst (λ (s : Ranges). P (box_of boxes f) (box_of boxes x) s) (sym (fixing_same boxes y v l)) (three v m)) lt k
          | inr j ↦ subst (λ (s : Ranges). P (box_of boxes f) (box_of boxes x) s) (sym (fixing_other boxes z y v j)) h
        ])
      ])
    ]

-- ---- sets

pub within_itself : (s : Ranges) → IsValid s → is_within s s ≡ true
within_itself s f = (within_law s s f f).1 (λ v h. h)

differ_test : (x f : ℕ) → (x ≡ f → ⊥) → (x == f) ≡ false
differ_test x f n = false_from_ne_true (x == f) (λ q. n (grind (arith, nat_tests)))

pub all_differ : (f x y : ℕ) → (x ≡ f → ⊥) → (y ≡ f → ⊥) → (y ≡ x → ⊥) → no_repeat (f ∷ x ∷ y ∷ []) ≡ true
all_differ f x y h k l = rw (differ_test x f h, differ_test y f k, differ_test y x l) refl

pub two_differ : (x y : ℕ) → (y ≡ x → ⊥) → no_repeat (x ∷ y ∷ []) ≡ true
two_differ x y l = rw (differ_test y x l) refl

-- ---- the flag is 0, or the one variable has a value that the other's box has, or the other is outside its box

can_hold : (flags box other : Ranges) → IsFlag flags → HasToLie flags box other → has flags (pos 1) ≡ true
can_hold flags box other f (inl h) = h.0
can_hold flags box other f (inr h) = flag_other false flags f h.0

pub in_other : (d s : Ranges) → IsValid d → IsValid s → (v : ℤ) → has (less d (less d s)) v ≡ true → has s v ≡ true
in_other d s f g v h = (within_law (less d (less d s)) s (IsValid-less d (less d s) f (IsValid-less d s f g)) g).0 (twice_within d s f g) v h

within_acts : (domains boxes : Boxes) (f x y : ℕ) → IsTriple domains boxes f x y → ArePlanned domains (length boxes) (within_plan domains boxes f x y) → HasToLie (box_of boxes f) (box_of boxes x) (box_of boxes y) →
    Acts boxes (literals_of domains (within_plan domains boxes f x y))
within_acts domains boxes f x y t p (inl h) =
    let g = t.good in let d = box_of domains x in let b = box_of boxes x in let o = box_of boxes y in
    plan_acts_head domains boxes (length boxes) (f, (pos 1, pos 1) ∷ []) ((x, less d o) ∷ (y, o) ∷ []) (pos 1) g.wide g.narrow p h.0 refl
    (missing_within b d o (g.narrow x) (g.wide x) (g.narrow y) (g.within x t.first) h.1, (within_itself o (g.narrow y), tt))
within_acts domains boxes f x y t p (inr h) =
    let g = t.good in let d = box_of domains x in let b = box_of boxes x in let o = box_of boxes y in
    plan_acts_tail domains boxes (length boxes) (f, (pos 1, pos 1) ∷ []) ((x, less d o) ∷ (y, o) ∷ []) g.wide g.narrow p (flag_only true (box_of boxes f) t.bits h.0)
    (plan_acts_over domains boxes (length boxes) (x, less d o) ((y, o) ∷ []) g.wide g.narrow p.3
    (left_over d (less d o) b o (g.wide x) (IsValid-less d o (g.wide x) (g.narrow y)) (g.narrow x) (g.narrow y) (in_other d o (g.wide x) (g.narrow y)) h.1)
    (within_itself o (g.narrow y), tt))

pub within_reason : (con : Con) (domains boxes : Boxes) (f x y : ℕ) → IsTriple domains boxes f x y → HasToLie (box_of boxes f) (box_of boxes x) (box_of boxes y) →
    ((rest : Boxes) → box_of rest f ≡ (pos 1, pos 1) ∷ [] → box_of rest x ≡ less (box_of domains x) (box_of boxes y) → box_of rest y ≡ box_of boxes y → excluded con rest ≡ true) →
    IsReason con domains boxes (literals_of domains (within_plan domains boxes f x y))
within_reason con domains boxes f x y t h e =
    let g = t.good in let d = box_of domains x in let o = box_of boxes y in
    let can = can_hold (box_of boxes f) (box_of boxes x) o t.bits h in
    let planned : ArePlanned domains (length boxes) (within_plan domains boxes f x y) = (
      t.flag,
      bit_valid true,
      one_within (box_of domains f) (pos 1) (g.wide f) (bit_valid true) (in_domain domains boxes f (pos 1) g t.flag can),
      (t.first, IsValid-less d o (g.wide x) (g.narrow y), less_within d o (g.wide x) (g.narrow y), (t.second, g.narrow y, g.within y t.second, tt)),
    ) in
    plan_reason con domains boxes (within_plan domains boxes f x y) g.wide planned (all_differ f x y t.first_differs t.second_differs t.different) (λ rest l. e rest l.0 l.1.0 l.1.1.0) (within_acts domains boxes f x y t planned h)
