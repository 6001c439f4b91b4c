-- Boxes within domains, flags, and plans for a flag and one variable more.
use Rattle.std.proofs.Common.{◌≡◌, ℕ, zero, suc, ◌<◌, Bool, true, false, not, [], ◌∷◌, ℤ, pos, negsuc, ◌≤ℤ◌, length, All, refl, arith, subst, sym, inl, inr, ◌⊎◌}
use Rattle.std.specs.Prelude.{◌==◌}
use Rattle.std.proofs.lemmas.Int.{ints}
use Rattle.std.proofs.lemmas.Bool.{cases_eq, false_from_ne_true}
use Rattle.std.proofs.lemmas.Bool.Decides.{nat_tests}
use Rattle.signed_clause.specs.Ranges.{Ranges, has, IsValid}
use Rattle.signed_clause.specs.SetAlgebra.{is_within, less}
use Rattle.signed_clause.specs.Clauses.{Boxes, box_of}
use Rattle.signed_clause.proofs.SetFacts.{within_law}
use Rattle.ground_form.specs.declared.con.Con.{Con}
use Rattle.ground_form.specs.Meaning.{bit}
use Rattle.ground_form.specs.Bounds.{low_of, LiesWithin}
use Rattle.rule_law.specs.Answers.{AreBoxesWithin}
use Rattle.box_rules.specs.Refuted.{excluded}
use Rattle.box_view.specs.Views.{fixing}
use Rattle.rule_law.specs.Reasons.{no_repeat, Acts, IsReason}
use Rattle.box_view.proofs.EndLaws.{AreSets, are_sets, above_low, below_high, has_low}
use Rattle.box_view.proofs.SetLaws.{fixing_same, fixing_other}
use Rattle.rule_law.specs.Plans.{literals_of, IsFlag}
use Rattle.box_rules.proofs.QuietFrom.{AreSome}
use Rattle.box_view.proofs.Leaving.{one_valid, has_one, one_within}
use Rattle.rule_law.proofs.PlanLaws.{ArePlanned, plan_reason, plan_acts_head, plan_acts_tail, plan_acts_over}

-- ---- boxes within domains

pub record AreGood (domains boxes : Boxes) : Type 0 where
  pub wide : AreSets domains
  pub narrow : AreSets boxes
  pub within : (x : ℕ) → x < length boxes → is_within (box_of boxes x) (box_of domains x) ≡ true
  pub some : AreSome (length boxes) boxes
  pub size : length boxes ≡ length domains

pub are_good : (domains boxes : Boxes) → All (λ d. IsValid d) domains → AreBoxesWithin domains boxes → AreGood domains boxes
are_good domains boxes s b = record {
  wide = are_sets domains s;
  narrow = are_sets boxes b.sets;
  within = b.within;
  some = b.some;
  size = b.size;
}

-- a value of a box is one of the domain
pub in_domain : (domains boxes : Boxes) (x : ℕ) (v : ℤ) → AreGood domains boxes → x < length boxes → has (box_of boxes x) v ≡ true → has (box_of domains x) v ≡ true
in_domain domains boxes x v g lt h = (within_law (box_of boxes x) (box_of domains x) (g.narrow x) (g.wide x)).0 (g.within x lt) v h

-- ---- flags

bits_between : (v : ℤ) → pos 0 ≤ℤ v → v ≤ℤ pos 1 → (v ≡ pos 0) ⊎ (v ≡ pos 1)
bits_between (pos zero) h k = inl refl
bits_between (pos (suc zero)) h k = inr refl
bits_between (pos (suc (suc n))) h k = absurd (omega (arith, ints))
bits_between (negsuc n) h k = absurd (omega (arith, ints))

pub is_flag : (domains boxes : Boxes) (f : ℕ) → AreGood domains boxes → f < length boxes → LiesWithin (pos 0) (pos 1) (box_of domains f) → IsFlag (box_of boxes f)
is_flag domains boxes f g lt l = record {
  valid = g.narrow f;
  some = g.some f lt;
  bits = λ v h.
      let there = in_domain domains boxes f v g lt h in
      let low = above_low (box_of domains f) v (g.wide f) there in let high = below_high (box_of domains f) v (g.wide f) there in
      let least = l.0 in let most = l.1 in
      bits_between v (omega (arith, ints)) (omega (arith, ints));
}

-- a flag that can't have a truth has the other
pub flag_other : (b : Bool) (box : Ranges) → IsFlag box → has box (bit b) ≡ false → has box (bit (not b)) ≡ true
flag_other true box f h =
    let low = has_low box f.valid f.some in
    elim (f.bits (low_of box) low) [
      | inl e ↦ subst (λ (z : ℤ). has box z ≡ true) e low
      | inr e ↦ let no : has box (pos 1) ≡ true = subst (λ (z : ℤ). has box z ≡ true) e low in absurd (grind arith)
    ]
flag_other false box f h =
    let low = has_low box f.valid f.some in
    elim (f.bits (low_of box) low) [
      | inl e ↦ let no : has box (pos 0) ≡ true = subst (λ (z : ℤ). has box z ≡ true) e low in absurd (grind arith)
      | inr e ↦ subst (λ (z : ℤ). has box z ≡ true) e low
    ]

pub bit_valid : (b : Bool) → IsValid ((bit b, bit b) ∷ [])
bit_valid true = one_valid [] (pos 1) (omega (arith, ints)) (omega (arith, ints)) (omega (arith, ints))
bit_valid false = one_valid [] (pos 0) (omega (arith, ints)) (omega (arith, ints)) (omega (arith, ints))

pub flag_only : (b : Bool) (box : Ranges) → IsFlag box → has box (bit (not b)) ≡ false → is_within box ((bit b, bit b) ∷ []) ≡ true
flag_only true box f h =
    (within_law box ((pos 1, pos 1) ∷ []) f.valid (bit_valid true)).1 (λ v k. elim (f.bits v k) [
      | inl e ↦ let no : has box (pos 0) ≡ true = subst (λ (z : ℤ). has box z ≡ true) e k in absurd (grind arith)
      | inr e ↦ subst (λ (z : ℤ). has ((pos 1, pos 1) ∷ []) z ≡ true) (sym e) refl
    ])
flag_only false box f h =
    (within_law box ((pos 0, pos 0) ∷ []) f.valid (bit_valid false)).1 (λ v k. elim (f.bits v k) [
      | inl e ↦ subst (λ (z : ℤ). has ((pos 0, pos 0) ∷ []) z ≡ true) (sym e) refl
      | inr e ↦ let no : has box (pos 1) ≡ true = subst (λ (z : ℤ). has box z ≡ true) e k in absurd (grind arith)
    ])

-- ---- two variables

-- what holds of two boxes, and of each value of one of them beside the other box, holds where any
-- box has one of its values alone
pub two_fixed : (P : Ranges → Ranges → Type 0) (boxes : Boxes) (f x : ℕ) → (x ≡ f → ⊥) → P (box_of boxes f) (box_of boxes x) →
    ((v : ℤ) → has (box_of boxes f) v ≡ true → P ((v, v) ∷ []) (box_of boxes x)) → ((v : ℤ) → has (box_of boxes x) v ≡ true → P (box_of boxes f) ((v, v) ∷ [])) →
    (y : ℕ) (v : ℤ) → y < length boxes → has (box_of boxes y) v ≡ true → P (box_of (fixing boxes y v) f) (box_of (fixing boxes y v) x)
two_fixed P boxes f x n h one two y v lt k =
    elim (cases_eq f y) [
      | inl e ↦ subst (λ (z : ℕ). z < length boxes → has (box_of boxes z) v ≡ true → P (box_of (fixing boxes z v) f) (box_of (fixing boxes z v) x)) e
          (λ l m. subst (λ (s : Ranges). P s (box_of (fixing boxes f v) x)) (sym (fixing_same boxes f v l)) (subst (λ (s : Ranges). P ((v, v) ∷ []) s) (sym (fixing_other boxes f x v n)) (one v m))) lt k
      | inr e ↦ subst (λ (s : Ranges). P s (box_of (fixing boxes y v) x)) (sym (fixing_other boxes y f v e)) (elim (cases_eq x y) [
        | inl i ↦ subst (λ (z : ℕ). z < length boxes → has (box_of boxes z) v ≡ true → P (box_of boxes f) (box_of (fixing boxes z v) x)) i
            (λ l m. subst (λ (s : Ranges). P (box_of boxes f) s) (sym (fixing_same boxes x v l)) (two v m)) lt k
        | inr i ↦ subst (λ (s : Ranges). P (box_of boxes f) s) (sym (fixing_other boxes y x v i)) h
      ])
    ]

-- ---- a flag and one variable

pub record IsPair (domains boxes : Boxes) (f x : ℕ) : Type 0 where
  pub good : AreGood domains boxes
  pub flag : f < length boxes
  pub var : x < length boxes
  pub differ : x ≡ f → ⊥
  pub bits : IsFlag (box_of boxes f)

-- the flag can have the truth though all of the box is left, or must have it and not all of the box
-- is gone
abbrev pub PairActs : Bool → Ranges → Ranges → Ranges → Ranges → Type 0
PairActs b flags box domain left =
    ((has flags (bit b) ≡ true) × (is_within box left ≡ true)) ⊎ ((has flags (bit (not b)) ≡ false) × (is_within box (less domain left) ≡ false))

not_not : (b : Bool) → not (not b) ≡ b
not_not true = refl
not_not false = refl

pair_can : (b : Bool) (flags box domain left : Ranges) → IsFlag flags → PairActs b flags box domain left → has flags (bit b) ≡ true
pair_can b flags box domain left f (inl h) = h.0
pair_can b flags box domain left f (inr h) = subst (λ (c : Bool). has flags (bit c) ≡ true) (not_not b) (flag_other (not b) flags f h.0)

pair_planned : (domains boxes : Boxes) (f x : ℕ) (b : Bool) (left : Ranges) → IsPair domains boxes f x → has (box_of boxes f) (bit b) ≡ true → IsValid left → is_within left (box_of domains x) ≡ true →
    ArePlanned domains (length boxes) ((f, (bit b, bit b) ∷ []) ∷ (x, left) ∷ [])
pair_planned domains boxes f x b left p can v within =
    (p.flag, bit_valid b, one_within (box_of domains f) (bit b) (p.good.wide f) (bit_valid b) (in_domain domains boxes f (bit b) p.good p.flag can), (p.var, v, within, tt))

pair_acts : (domains boxes : Boxes) (f x : ℕ) (b : Bool) (left : Ranges) → IsPair domains boxes f x → ArePlanned domains (length boxes) ((f, (bit b, bit b) ∷ []) ∷ (x, left) ∷ []) →
    PairActs b (box_of boxes f) (box_of boxes x) (box_of domains x) left → Acts boxes (literals_of domains ((f, (bit b, bit b) ∷ []) ∷ (x, left) ∷ []))
pair_acts domains boxes f x b left p a (inl h) =
    plan_acts_head domains boxes (length boxes) (f, (bit b, bit b) ∷ []) ((x, left) ∷ []) (bit b) p.good.wide p.good.narrow a h.0 (has_one (bit b)) (h.1, tt)
pair_acts domains boxes f x b left p a (inr h) =
    plan_acts_tail domains boxes (length boxes) (f, (bit b, bit b) ∷ []) ((x, left) ∷ []) p.good.wide p.good.narrow a (flag_only b (box_of boxes f) p.bits h.0)
    (plan_acts_over domains boxes (length boxes) (x, left) [] p.good.wide p.good.narrow a.3 h.1 tt)

differ_test : (x f : ℕ) → (x ≡ f → ⊥) → (x == f) ≡ false
differ_test x f n = false_from_ne_true (x == f) (λ q. n (grind (arith, nat_tests)))

pub pair_reason : (con : Con) (domains boxes : Boxes) (f x : ℕ) (b : Bool) (left : Ranges) → IsPair domains boxes f x → IsValid left → is_within left (box_of domains x) ≡ true →
    PairActs b (box_of boxes f) (box_of boxes x) (box_of domains x) left →
    ((rest : Boxes) → box_of rest f ≡ (bit b, bit b) ∷ [] → box_of rest x ≡ left → excluded con rest ≡ true) →
    IsReason con domains boxes (literals_of domains ((f, (bit b, bit b) ∷ []) ∷ (x, left) ∷ []))
pair_reason con domains boxes f x b left p v within acts e =
    let can = pair_can b (box_of boxes f) (box_of boxes x) (box_of domains x) left p.bits acts in
    let planned = pair_planned domains boxes f x b left p can v within in
    let differ : no_repeat (f ∷ x ∷ []) ≡ true = rw (differ_test x f p.differ) refl in
    plan_reason con domains boxes ((f, (bit b, bit b) ∷ []) ∷ (x, left) ∷ []) p.good.wide planned differ (λ rest l. e rest l.0 l.1.0) (pair_acts domains boxes f x b left p planned acts)
