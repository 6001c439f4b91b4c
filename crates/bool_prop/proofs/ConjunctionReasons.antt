-- What a conjunction has to state: that its flag is 0 or a part as it wants, or that its flag is 1
-- or some part isn't.
use Rattle.std.proofs.Common.{◌≡◌, ℕ, zero, suc, ◌<◌, Bool, true, false, not, ◌&&◌, ◌||◌, cond, List, [], ◌∷◌, ℤ, pos, length, get_or, All, refl, arith, subst, sym, ap, ◌∙◌, inl, inr}
use Rattle.std.proofs.lemmas.Bool.{and_parts, and_from, false_from_ne_true}
use Rattle.std.proofs.lemmas.Bool.Decides.{Decides-int_eq}
use Rattle.signed_clause.specs.Ranges.{Ranges, has, is_nil, IsValid}
use Rattle.signed_clause.specs.SetAlgebra.{is_within, less}
use Rattle.signed_clause.specs.Clauses.{Boxes, box_of}
use Rattle.signed_clause.proofs.RangeSteps.{IsValid-less, has-less_valid}
use Rattle.signed_clause.proofs.SetFacts.{within_law}
use Rattle.ground_form.specs.declared.con.Con.TheVariants.{AndDef}
use Rattle.ground_form.specs.Meaning.{bit, part_vars, clause_vars}
use Rattle.ground_form.specs.Bounds.{low_of, high_of}
use Rattle.box_rules.specs.Refuted.{fixed_at, barred, some_barred, all_fixed}
use Rattle.rule_law.specs.Reasons.{no_repeat, Acts, IsReason}
use Rattle.box_rules.proofs.FixedLaws.{fixed_value, single_fixed}
use Rattle.box_view.proofs.EndLaws.{AreSets, has_low, has_high}
use Rattle.box_view.proofs.SetLaws.{single-is_disjoint}
use Rattle.rule_law.specs.Plans.{IsFlag, literals_of}
use Rattle.bool_prop.specs.Findings.{IsPartOpen, IsWholeOpen, part_fixed, one_open, whole_plan}
use Rattle.box_view.proofs.Leaving.{less_within, missing_within, twice_within, has_one, one_within, left_over}
use Rattle.rule_law.proofs.PlanLaws.{ArePlanned, Leaves, AllLeft, plan_reason, plan_acts_head, plan_acts_tail}
use Rattle.rule_law.proofs.FlagPlans.{AreGood, in_domain, IsPair, PairActs, pair_reason, bit_valid, flag_only, flag_other}
use Rattle.bool_prop.proofs.ConjunctionQuiet.{fixed_has}

-- ---- one part

-- a box that lies within one value is it
only_fixed : (s : Ranges) (w : ℤ) → IsValid s → IsValid ((w, w) ∷ []) → is_nil s ≡ false → is_within s ((w, w) ∷ []) ≡ true → fixed_at s w ≡ true
only_fixed s w f g n h =
    let within = (within_law s ((w, w) ∷ []) f g).0 h in
    let low = single_low (low_of s) w g (within (low_of s) (has_low s f n)) in
    let high = single_low (high_of s) w g (within (high_of s) (has_high s f n)) in
    rw (n, (Decides-int_eq (low_of s) w).1 low, (Decides-int_eq (high_of s) w).1 high) refl
  where
    single_low : (v u : ℤ) → IsValid ((u, u) ∷ []) → has ((u, u) ∷ []) v ≡ true → v ≡ u
    single_low v u i k = fixed_value ((u, u) ∷ []) u v i (single_fixed u u ∙ (Decides-int_eq u u).1 refl) k

lies_in_one : (s : Ranges) (w : ℤ) → IsValid s → IsValid ((w, w) ∷ []) → fixed_at s w ≡ true → is_within s ((w, w) ∷ []) ≡ true
lies_in_one s w f g h =
    (within_law s ((w, w) ∷ []) f g).1 (λ v k. let e = fixed_value s w v f h k in subst (λ (z : ℤ). has ((w, w) ∷ []) z ≡ true) (sym e) (has_one w))

some_at : (parts : List (ℕ × Bool)) (i : ℕ) (d : ℕ × Bool) (boxes : Boxes) → i < length parts → barred boxes (get_or parts i d).0 (get_or parts i d).1 ≡ true → some_barred parts boxes ≡ true
some_at [] i d boxes lt h = absurd (omega arith)
some_at (p ∷ ps) zero d boxes lt h = rw h refl
some_at (p ∷ ps) (suc i) d boxes lt h = let more = some_at ps i d boxes (omega arith) h in grind arith

no_value : (d : Ranges) (w : ℤ) → IsValid d → IsValid ((w, w) ∷ []) → not (has (less d ((w, w) ∷ [])) w) ≡ true
no_value d w f g = let e = has-less_valid d ((w, w) ∷ []) f g w in let o = has_one w in grind arith

not_true_is : (b : Bool) → not b ≡ true → b ≡ false
not_true_is true h = absurd cc
not_true_is false h = refl

not_false_is : (b : Bool) → not b ≡ false → b ≡ true
not_false_is true h = refl
not_false_is false h = absurd cc

pub part_reason : (domains boxes : Boxes) (flag : ℕ) (parts : List (ℕ × Bool)) (i : ℕ) (p : ℕ × Bool) → IsPair domains boxes flag p.0 → i < length parts → ((d : ℕ × Bool) → get_or parts i d ≡ p) →
    IsPartOpen flag p boxes →
    IsReason (AndDef flag parts) domains boxes (literals_of domains ((flag, (pos 1, pos 1) ∷ []) ∷ (p.0, less (box_of domains p.0) ((bit p.1, bit p.1) ∷ [])) ∷ []))
part_reason domains boxes flag parts i p s lt at o =
    let box = box_of boxes p.0 in let domain = box_of domains p.0 in let w = bit p.1 in
    let fd = s.good.wide p.0 in let fb = s.good.narrow p.0 in let valid = bit_valid p.1 in
    let acts : PairActs true (box_of boxes flag) box domain (less domain ((w, w) ∷ [])) =
    elim o.acts [
      | inl h ↦ inl (
        not_false_is (has (box_of boxes flag) (pos 1)) h.0,
        missing_within box domain ((w, w) ∷ []) fb fd valid (s.good.within p.0 s.var) (single-is_disjoint w box valid fb ∙ h.1),
      )
      | inr h ↦ inr (
        not_true_is (has (box_of boxes flag) (pos 0)) h.0,
        left_over domain (less domain ((w, w) ∷ [])) box ((w, w) ∷ []) fd (IsValid-less domain ((w, w) ∷ []) fd valid) fb valid
            (λ v k. (within_law (less domain (less domain ((w, w) ∷ []))) ((w, w) ∷ []) (IsValid-less domain (less domain ((w, w) ∷ [])) fd (IsValid-less domain ((w, w) ∷ []) fd valid)) valid).0
            (twice_within domain ((w, w) ∷ []) fd valid) v k)
            (false_from_ne_true (is_within box ((w, w) ∷ [])) (λ q. let yes = only_fixed box w fb valid (s.good.some p.0 s.var) q in let no = h.1 in grind arith)),
      )
    ] in
    pair_reason (AndDef flag parts) domains boxes flag p.0 true (less domain ((w, w) ∷ [])) s (IsValid-less domain ((w, w) ∷ []) fd valid) (less_within domain ((w, w) ∷ []) fd valid) acts
    (λ rest h k.
    let gone : barred rest p.0 p.1 ≡ true = ap (λ (z : Ranges). not (has z w)) k ∙ no_value domain w fd valid in
    let some = some_at parts i p rest lt (subst (λ (z : ℕ × Bool). barred rest z.0 z.1 ≡ true) (sym (at p)) gone) in
    let lacks : has (box_of rest flag) (pos 0) ≡ false = ap (λ (z : Ranges). has z (pos 0)) h in
    rw (lacks, some) (both_true (not (has (box_of rest flag) (pos 1))) (all_fixed parts rest)))
  where
    both_true : (a b : Bool) → ((a || true) && (not false || b)) ≡ true
    both_true a b = grind arith

-- ---- all parts

pub plan_vars : (parts : List (ℕ × Bool)) → clause_vars (whole_plan parts) ≡ part_vars parts
plan_vars [] = refl
plan_vars (p ∷ ps) = ap (λ (xs : List ℕ). p.0 ∷ xs) (plan_vars ps)

-- each part can be as it wants
abbrev CanAll : List (ℕ × Bool) → Boxes → Type 0
CanAll [] boxes = Unit {0}
CanAll (p ∷ ps) boxes = (has (box_of boxes p.0) (bit p.1) ≡ true) × CanAll ps boxes

can_fixed : (parts : List (ℕ × Bool)) (boxes : Boxes) → AreSets boxes → all_fixed parts boxes ≡ true → CanAll parts boxes
can_fixed [] boxes s h = tt
can_fixed (p ∷ ps) boxes s h =
    let parts = and_parts (part_fixed boxes p) (all_fixed ps boxes) h in (fixed_has (box_of boxes p.0) (bit p.1) (s p.0) parts.0, can_fixed ps boxes s parts.1)

can_open : (parts : List (ℕ × Bool)) (boxes : Boxes) → AreSets boxes → one_open parts boxes ≡ true → CanAll parts boxes
can_open [] boxes s h = absurd cc
can_open (p ∷ ps) boxes s h =
    let P : Bool → Type 0 = λ t. part_fixed boxes p ≡ t → cond t (one_open ps boxes) (not (barred boxes p.0 p.1) && all_fixed ps boxes) ≡ true → CanAll (p ∷ ps) boxes in
    (elim (part_fixed boxes p) as P [
      | true ↦ λ e k. (fixed_has (box_of boxes p.0) (bit p.1) (s p.0) e, can_open ps boxes s k)
      | false ↦ λ e k. let parts = and_parts (not (barred boxes p.0 p.1)) (all_fixed ps boxes) k in
          (not_not (has (box_of boxes p.0) (bit p.1)) parts.0, can_fixed ps boxes s parts.1)
    ]) refl h
  where
    not_not : (b : Bool) → not (not b) ≡ true → b ≡ true
    not_not true h = refl
    not_not false h = absurd cc

parts_planned : (domains boxes : Boxes) (parts : List (ℕ × Bool)) → AreGood domains boxes → All (λ p. p.0 < length boxes) parts → CanAll parts boxes → ArePlanned domains (length boxes) (whole_plan parts)
parts_planned domains boxes [] g n c = tt
parts_planned domains boxes (p ∷ ps) g n c =
    let lt : p.0 < length boxes = n 0 p (omega arith) in (
      lt,
      bit_valid p.1,
      one_within (box_of domains p.0) (bit p.1) (g.wide p.0) (bit_valid p.1) (in_domain domains boxes p.0 (bit p.1) g lt c.0),
      parts_planned domains boxes ps g (λ k d l. n (suc k) d (omega arith)) c.1,
    )

fixed_left : (boxes : Boxes) (parts : List (ℕ × Bool)) → AreSets boxes → all_fixed parts boxes ≡ true → AllLeft boxes (whole_plan parts)
fixed_left boxes [] s h = tt
fixed_left boxes (p ∷ ps) s h =
    let parts = and_parts (part_fixed boxes p) (all_fixed ps boxes) h in
    (lies_in_one (box_of boxes p.0) (bit p.1) (s p.0) (bit_valid p.1) parts.0, fixed_left boxes ps s parts.1)

open_acts : (domains boxes : Boxes) (parts : List (ℕ × Bool)) → AreGood domains boxes → ArePlanned domains (length boxes) (whole_plan parts) → one_open parts boxes ≡ true → Acts boxes (literals_of domains (whole_plan parts))
open_acts domains boxes [] g p h = absurd cc
open_acts domains boxes (p ∷ ps) g a h =
    let e : ℕ × List (ℤ × ℤ) = (p.0, (bit p.1, bit p.1) ∷ []) in
    let P : Bool → Type 0 = λ t. part_fixed boxes p ≡ t → cond t (one_open ps boxes) (not (barred boxes p.0 p.1) && all_fixed ps boxes) ≡ true → Acts boxes (literals_of domains (whole_plan (p ∷ ps))) in
    (elim (part_fixed boxes p) as P [
      | true ↦ λ f k. plan_acts_tail domains boxes (length boxes) e (whole_plan ps) g.wide g.narrow a (lies_in_one (box_of boxes p.0) (bit p.1) (g.narrow p.0) (bit_valid p.1) f)
          (open_acts domains boxes ps g a.3 k)
      | false ↦ λ f k. let parts = and_parts (not (barred boxes p.0 p.1)) (all_fixed ps boxes) k in
          plan_acts_head domains boxes (length boxes) e (whole_plan ps) (bit p.1) g.wide g.narrow a (not_not (has (box_of boxes p.0) (bit p.1)) parts.0) (has_one (bit p.1))
          (fixed_left boxes ps g.narrow parts.1)
    ]) refl h
  where
    not_not : (b : Bool) → not (not b) ≡ true → b ≡ true
    not_not true h = refl
    not_not false h = absurd cc

all_there : (parts : List (ℕ × Bool)) (rest : Boxes) → Leaves rest (whole_plan parts) → all_fixed parts rest ≡ true
all_there [] rest h = refl
all_there (p ∷ ps) rest h =
    and_from (part_fixed rest p) (all_fixed ps rest)
    (ap (λ (z : Ranges). fixed_at z (bit p.1)) h.0 ∙ single_fixed (bit p.1) (bit p.1) ∙ (Decides-int_eq (bit p.1) (bit p.1)).1 refl) (all_there ps rest h.1)

can_whole : (domains boxes : Boxes) (flag : ℕ) (parts : List (ℕ × Bool)) → AreGood domains boxes → IsFlag (box_of boxes flag) → IsWholeOpen flag parts boxes → (has (box_of boxes flag) (pos 0) ≡ true) × CanAll parts boxes
can_whole domains boxes flag parts g f (inl h) = (not_false_is (has (box_of boxes flag) (pos 0)) h.0, can_fixed parts boxes g.narrow h.1)
can_whole domains boxes flag parts g f (inr h) = (flag_other true (box_of boxes flag) f (not_true_is (has (box_of boxes flag) (pos 1)) h.0), can_open parts boxes g.narrow h.1)

whole_acts : (domains boxes : Boxes) (flag : ℕ) (parts : List (ℕ × Bool)) → AreGood domains boxes → IsFlag (box_of boxes flag) →
    ArePlanned domains (length boxes) ((flag, (pos 0, pos 0) ∷ []) ∷ whole_plan parts) → IsWholeOpen flag parts boxes → Acts boxes (literals_of domains ((flag, (pos 0, pos 0) ∷ []) ∷ whole_plan parts))
whole_acts domains boxes flag parts g f a (inl h) =
    plan_acts_head domains boxes (length boxes) (flag, (pos 0, pos 0) ∷ []) (whole_plan parts) (pos 0) g.wide g.narrow a (not_false_is (has (box_of boxes flag) (pos 0)) h.0) refl
    (fixed_left boxes parts g.narrow h.1)
whole_acts domains boxes flag parts g f a (inr h) =
    plan_acts_tail domains boxes (length boxes) (flag, (pos 0, pos 0) ∷ []) (whole_plan parts) g.wide g.narrow a (flag_only false (box_of boxes flag) f (not_true_is (has (box_of boxes flag) (pos 1)) h.0))
    (open_acts domains boxes parts g a.3 h.1)

pub whole_reason : (domains boxes : Boxes) (flag : ℕ) (parts : List (ℕ × Bool)) → AreGood domains boxes → IsFlag (box_of boxes flag) → flag < length boxes → All (λ p. p.0 < length boxes) parts →
    no_repeat (flag ∷ part_vars parts) ≡ true → IsWholeOpen flag parts boxes → IsReason (AndDef flag parts) domains boxes (literals_of domains ((flag, (pos 0, pos 0) ∷ []) ∷ whole_plan parts))
whole_reason domains boxes flag parts g f lt n d o =
    let can = can_whole domains boxes flag parts g f o in
    let planned : ArePlanned domains (length boxes) ((flag, (pos 0, pos 0) ∷ []) ∷ whole_plan parts) =
    (lt, bit_valid false, one_within (box_of domains flag) (pos 0) (g.wide flag) (bit_valid false) (in_domain domains boxes flag (pos 0) g lt can.0), parts_planned domains boxes parts g n can.1) in
    plan_reason (AndDef flag parts) domains boxes ((flag, (pos 0, pos 0) ∷ []) ∷ whole_plan parts) g.wide planned
    (subst (λ (xs : List ℕ). no_repeat (flag ∷ xs) ≡ true) (sym (plan_vars parts)) d)
    (λ rest l.
    let all = all_there parts rest l.1 in
    let lacks : has (box_of rest flag) (pos 1) ≡ false = ap (λ (z : Ranges). has z (pos 1)) l.0 in
    rw (lacks, all) (both_true (some_barred parts rest) (not (has (box_of rest flag) (pos 0)))))
    (whole_acts domains boxes flag parts g f planned o)
  where
    both_true : (a b : Bool) → ((not false || a) && (b || true)) ≡ true
    both_true a b = grind arith
