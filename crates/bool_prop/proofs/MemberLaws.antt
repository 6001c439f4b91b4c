-- What a membership has to state.
use Rattle.std.proofs.Common.{◌≡◌, ℕ, ◌<◌, Bool, true, false, not, ◌&&◌, ◌||◌, cond, [], ◌∷◌, ℤ, pos, Option, Some, None, length, All, refl, arith, subst, sym, ap, ◌∙◌, inl, inr, ◌⊎◌}
use Rattle.std.proofs.lemmas.Bool.{false_from_ne_true}
use Rattle.signed_clause.specs.Ranges.{Ranges, has, IsValid}
use Rattle.signed_clause.specs.SetAlgebra.{is_disjoint, is_within, less}
use Rattle.signed_clause.specs.Clauses.{Boxes, box_of}
use Rattle.signed_clause.proofs.RangeSteps.{IsValid-less, has-less_valid}
use Rattle.signed_clause.proofs.SetFacts.{disjoint_law, within_law}
use Rattle.ground_form.specs.declared.con.Con.{Con}
use Rattle.ground_form.specs.declared.con.Con.TheVariants.{MemberDef}
use Rattle.ground_form.specs.WellMade.{IsWellMadeCon}
use Rattle.rule_law.specs.Answers.{AreBoxesWithin}
use Rattle.box_rules.specs.Quiet.{quiet}
use Rattle.rule_law.specs.Reasons.{IsReason}
use Rattle.box_view.proofs.SetLaws.{is_disjoint-single, is_within-single}
use Rattle.rule_law.specs.Plans.{IsFlag, literals_of}
use Rattle.bool_prop.specs.Findings.{member_finding}
use Rattle.box_rules.proofs.QuietFrom.{quiet_from}
use Rattle.box_view.proofs.Leaving.{less_within, missing_within, within_within, less_disjoint, twice_within, value_valid, left_over}
use Rattle.rule_law.proofs.FlagPlans.{are_good, is_flag, flag_other, two_fixed, IsPair, PairActs, pair_reason}

-- ---- memberships

-- what a membership says of four tests: the flag can be 1, it can be 0, the box misses the set, it
-- lies inside
abbrev by_tests : Bool → Bool → Bool → Bool → Option Bool
by_tests on off disjoint in_set = cond (on && (disjoint || (not off && not in_set))) (Some true) (cond (off && (in_set || (not on && not disjoint))) (Some false) None)

record IsCalm (on off disjoint in_set : Bool) : Type 0 where
  not_disjoint : (on && disjoint) ≡ false
  not_within : (off && in_set) ≡ false
  held : (not off && (on && not in_set)) ≡ false
  denied : (not on && (off && not disjoint)) ≡ false

calm_from : (on off disjoint in_set : Bool) → by_tests on off disjoint in_set ≡ None → IsCalm on off disjoint in_set
calm_from true z true i e = absurd cc
calm_from true true false true e = absurd cc
calm_from true true false false e = record { not_disjoint = refl; not_within = refl; held = refl; denied = refl }
calm_from true false false true e = record { not_disjoint = refl; not_within = refl; held = refl; denied = refl }
calm_from true false false false e = absurd cc
calm_from false true m true e = absurd cc
calm_from false true true false e = record { not_disjoint = refl; not_within = refl; held = refl; denied = refl }
calm_from false true false false e = absurd cc
calm_from false false m i e = record { not_disjoint = refl; not_within = refl; held = refl; denied = refl }

-- the rule of a membership, of boxes
abbrev Member : Ranges → Ranges → Ranges → Type 0
Member set flags box = ((not (has flags (pos 1)) || is_disjoint box set) && (not (has flags (pos 0)) || is_within box set)) ≡ false

calm_boxes : (on off disjoint in_set : Bool) → (on ≡ false → off ≡ true) → IsCalm on off disjoint in_set → ((not on || disjoint) && (not off || in_set)) ≡ false
calm_boxes on off disjoint in_set o c = let a = c.not_disjoint in let b = c.not_within in grind arith

calm_value : (on off disjoint in_set s : Bool) → (on ≡ false → off ≡ true) → IsCalm on off disjoint in_set → (disjoint ≡ true → s ≡ false) → (in_set ≡ true → s ≡ true) → ((not on || not s) && (not off || s)) ≡ false
calm_value on off disjoint in_set s o c h k = let a = c.held in let b = c.denied in grind arith

calm_flag : (on off disjoint in_set : Bool) (v : ℤ) → IsCalm on off disjoint in_set → (v ≡ pos 0 → off ≡ true) → (v ≡ pos 1 → on ≡ true) → (v ≡ pos 0) ⊎ (v ≡ pos 1) →
    ((not (has ((v, v) ∷ []) (pos 1)) || disjoint) && (not (has ((v, v) ∷ []) (pos 0)) || in_set)) ≡ false
calm_flag on off disjoint in_set v c h k (inl e) =
    subst (λ (w : ℤ). ((not (has ((w, w) ∷ []) (pos 1)) || disjoint) && (not (has ((w, w) ∷ []) (pos 0)) || in_set)) ≡ false) (sym e) (let z = h e in let a = c.not_within in grind arith)
calm_flag on off disjoint in_set v c h k (inr e) =
    subst (λ (w : ℤ). ((not (has ((w, w) ∷ []) (pos 1)) || disjoint) && (not (has ((w, w) ∷ []) (pos 0)) || in_set)) ≡ false) (sym e) (let o = k e in let a = c.not_disjoint in grind arith)

calm_excluded : (set flags box : Ranges) → IsFlag flags → IsCalm (has flags (pos 1)) (has flags (pos 0)) (is_disjoint box set) (is_within box set) → Member set flags box
calm_excluded set flags box f c = calm_boxes (has flags (pos 1)) (has flags (pos 0)) (is_disjoint box set) (is_within box set) (flag_other true flags f) c

calm_fixed : (set flags box : Ranges) (v : ℤ) → IsValid set → IsValid box → IsFlag flags → IsCalm (has flags (pos 1)) (has flags (pos 0)) (is_disjoint box set) (is_within box set) → has box v ≡ true → Member set flags ((v, v) ∷ [])
calm_fixed set flags box v s t f c h =
    let valid = value_valid box v t h in
    let disjoint : is_disjoint box set ≡ true → has set v ≡ false = λ q. (disjoint_law box set t s).0 q v h in
    let within : is_within box set ≡ true → has set v ≡ true = λ q. (within_law box set t s).0 q v h in
    rw (is_disjoint-single v set valid s, is_within-single v set valid s)
    (calm_value (has flags (pos 1)) (has flags (pos 0)) (is_disjoint box set) (is_within box set) (has set v) (flag_other true flags f) c disjoint within)

calm_flagged : (set flags box : Ranges) (v : ℤ) → IsFlag flags → IsCalm (has flags (pos 1)) (has flags (pos 0)) (is_disjoint box set) (is_within box set) → has flags v ≡ true → Member set ((v, v) ∷ []) box
calm_flagged set flags box v f c h =
    calm_flag (has flags (pos 1)) (has flags (pos 0)) (is_disjoint box set) (is_within box set) v c
    (λ e. subst (λ (z : ℤ). has flags z ≡ true) e h) (λ e. subst (λ (z : ℤ). has flags z ≡ true) e h) (f.bits v h)

-- where neither clause says anything, the membership is quiet
pub member_quiet : (domains boxes : Boxes) (f x : ℕ) (set : Ranges) → IsPair domains boxes f x → IsValid set → All (λ y. y < length boxes) (f ∷ x ∷ []) →
    member_finding (box_of boxes f) (box_of boxes x) set ≡ None → quiet (MemberDef f x set) boxes ≡ true
member_quiet domains boxes f x set p s n e =
    let flags = box_of boxes f in let box = box_of boxes x in
    let c = calm_from (has flags (pos 1)) (has flags (pos 0)) (is_disjoint box set) (is_within box set) e in
    quiet_from (MemberDef f x set) boxes p.good.narrow n p.good.some (calm_excluded set flags box p.bits c)
    (two_fixed (Member set) boxes f x p.differ (calm_excluded set flags box p.bits c) (λ v h. calm_flagged set flags box v p.bits c h)
    (λ v h. calm_fixed set flags box v s (p.good.narrow x) p.bits c h))

record IsAffirmed (on off disjoint in_set : Bool) : Type 0 where
  cause : ((on ≡ true) × (disjoint ≡ true)) ⊎ ((off ≡ false) × (in_set ≡ false))

affirmed : (on off disjoint in_set : Bool) → by_tests on off disjoint in_set ≡ Some true → IsAffirmed on off disjoint in_set
affirmed true z true i e = record { cause = inl (refl, refl) }
affirmed true true false true e = absurd cc
affirmed true true false false e = absurd cc
affirmed true false false true e = absurd cc
affirmed true false false false e = record { cause = inr (refl, refl) }
affirmed false true m true e = absurd cc
affirmed false true true false e = absurd cc
affirmed false true false false e = absurd cc
affirmed false false m i e = absurd cc

record IsDenied (on off disjoint in_set : Bool) : Type 0 where
  cause : ((off ≡ true) × (in_set ≡ true)) ⊎ ((on ≡ false) × (disjoint ≡ false))

denied_from : (on off disjoint in_set : Bool) → by_tests on off disjoint in_set ≡ Some false → IsDenied on off disjoint in_set
denied_from true z true i e = absurd cc
denied_from true true false true e = record { cause = inl (refl, refl) }
denied_from true true false false e = absurd cc
denied_from true false false true e = absurd cc
denied_from true false false false e = absurd cc
denied_from false true m true e = record { cause = inl (refl, refl) }
denied_from false true true false e = absurd cc
denied_from false true false false e = record { cause = inr (refl, refl) }
denied_from false false m i e = absurd cc

lacks_outside : (d s : Ranges) → IsValid d → IsValid s → (v : ℤ) → has (less d (less d s)) v ≡ true → has s v ≡ true
lacks_outside d s f g v h = (within_law (less d (less d s)) s (IsValid-less d (less d s) f (IsValid-less d s f g)) g).0 (twice_within d s f g) v h

-- the flag is 0, or the value is in the set
pub member_affirmed : (domains boxes : Boxes) (f x : ℕ) (set : Ranges) → IsPair domains boxes f x → IsValid set → member_finding (box_of boxes f) (box_of boxes x) set ≡ Some true →
    IsReason (MemberDef f x set) domains boxes (literals_of domains ((f, (pos 1, pos 1) ∷ []) ∷ (x, less (box_of domains x) set) ∷ []))
member_affirmed domains boxes f x set p s e =
    let flags = box_of boxes f in let box = box_of boxes x in let domain = box_of domains x in
    let fd = p.good.wide x in let fb = p.good.narrow x in
    let acts : PairActs true flags box domain (less domain set) =
    elim (affirmed (has flags (pos 1)) (has flags (pos 0)) (is_disjoint box set) (is_within box set) e).cause [
      | inl h ↦ inl (h.0, missing_within box domain set fb fd s (p.good.within x p.var) h.1)
      | inr h ↦ inr (h.0, left_over domain (less domain set) box set fd (IsValid-less domain set fd s) fb s (lacks_outside domain set fd s) h.1)
    ] in
    pair_reason (MemberDef f x set) domains boxes f x true (less domain set) p (IsValid-less domain set fd s) (less_within domain set fd s) acts
    (λ rest h k.
    let off : has (box_of rest f) (pos 0) ≡ false = ap (λ (z : Ranges). has z (pos 0)) h in
    let disjoint : is_disjoint (box_of rest x) set ≡ true = ap (λ (z : Ranges). is_disjoint z set) k ∙ less_disjoint domain set fd s in
    rw (off, disjoint) (grind arith))

disjoint_outside : (d s : Ranges) → IsValid d → IsValid s → (b : Ranges) → IsValid b → is_disjoint b s ≡ false → is_within b (less d (less d (less d s))) ≡ false
disjoint_outside d s f g b i h =
    false_from_ne_true (is_within b (less d (less d (less d s)))) (λ q.
    let disjoint : is_disjoint b s ≡ true = (disjoint_law b s i g).1 (λ v m.
    let two = IsValid-less d s f g in let three = IsValid-less d (less d s) f two in
    let last = (within_law b (less d (less d (less d s))) i (IsValid-less d (less d (less d s)) f three)).0 q v m in
    let a = has-less_valid d (less d (less d s)) f three v in let b2 = has-less_valid d (less d s) f two v in let c = has-less_valid d s f g v in
    false_from_ne_true (has s v) (λ o. grind arith)) in grind arith)

-- the flag is 1, or the value is outside the set
pub member_denied : (domains boxes : Boxes) (f x : ℕ) (set : Ranges) → IsPair domains boxes f x → IsValid set → member_finding (box_of boxes f) (box_of boxes x) set ≡ Some false →
    IsReason (MemberDef f x set) domains boxes (literals_of domains ((f, (pos 0, pos 0) ∷ []) ∷ (x, less (box_of domains x) (less (box_of domains x) set)) ∷ []))
member_denied domains boxes f x set p s e =
    let flags = box_of boxes f in let box = box_of boxes x in let domain = box_of domains x in
    let fd = p.good.wide x in let fb = p.good.narrow x in
    let out = IsValid-less domain set fd s in
    let acts : PairActs false flags box domain (less domain (less domain set)) =
    elim (denied_from (has flags (pos 1)) (has flags (pos 0)) (is_disjoint box set) (is_within box set) e).cause [
      | inl h ↦ inl (h.0, within_within box domain set fb fd s (p.good.within x p.var) h.1)
      | inr h ↦ inr (h.0, disjoint_outside domain set fd s box fb h.1)
    ] in
    pair_reason (MemberDef f x set) domains boxes f x false (less domain (less domain set)) p (IsValid-less domain (less domain set) fd out) (less_within domain (less domain set) fd out) acts
    (λ rest h k.
    let on : has (box_of rest f) (pos 1) ≡ false = ap (λ (z : Ranges). has z (pos 1)) h in
    let within : is_within (box_of rest x) set ≡ true = ap (λ (z : Ranges). is_within z set) k ∙ twice_within domain set fd s in
    rw (on, within) (grind arith))

-- ---- the same of a constraint that is a membership

pub member_pair : (con : Con) (domains boxes : Boxes) (f x : ℕ) (set : Ranges) → con ≡ MemberDef f x set → IsWellMadeCon domains con → AreBoxesWithin domains boxes → All (λ d. IsValid d) domains →
    f < length domains → x < length domains → (x ≡ f → ⊥) → IsPair domains boxes f x
member_pair con domains boxes f x set e w b s lf lx n =
    let m : IsWellMadeCon domains (MemberDef f x set) = subst (λ (k : Con). IsWellMadeCon domains k) e w in
    let g = are_good domains boxes s b in
    let size = b.size in
    let here : f < length boxes = omega arith in
    record { good = g; flag = here; var = omega arith; differ = n; bits = is_flag domains boxes f g here (m.flags 0 0 (omega arith)) }

pub member_said : (con : Con) (domains boxes : Boxes) (f x : ℕ) (set : Ranges) → con ≡ MemberDef f x set → IsWellMadeCon domains con → IsPair domains boxes f x →
    member_finding (box_of boxes f) (box_of boxes x) set ≡ Some true → IsReason con domains boxes (literals_of domains ((f, (pos 1, pos 1) ∷ []) ∷ (x, less (box_of domains x) set) ∷ []))
member_said con domains boxes f x set e w p h =
    let m : IsWellMadeCon domains (MemberDef f x set) = subst (λ (k : Con). IsWellMadeCon domains k) e w in
    subst (λ (k : Con). IsReason k domains boxes (literals_of domains ((f, (pos 1, pos 1) ∷ []) ∷ (x, less (box_of domains x) set) ∷ []))) (sym e) (member_affirmed domains boxes f x set p m.sets h)

pub member_unsaid : (con : Con) (domains boxes : Boxes) (f x : ℕ) (set : Ranges) → con ≡ MemberDef f x set → IsWellMadeCon domains con → IsPair domains boxes f x →
    member_finding (box_of boxes f) (box_of boxes x) set ≡ Some false →
    IsReason con domains boxes (literals_of domains ((f, (pos 0, pos 0) ∷ []) ∷ (x, less (box_of domains x) (less (box_of domains x) set)) ∷ []))
member_unsaid con domains boxes f x set e w p h =
    let m : IsWellMadeCon domains (MemberDef f x set) = subst (λ (k : Con). IsWellMadeCon domains k) e w in
    subst (λ (k : Con). IsReason k domains boxes (literals_of domains ((f, (pos 0, pos 0) ∷ []) ∷ (x, less (box_of domains x) (less (box_of domains x) set)) ∷ []))) (sym e)
    (member_denied domains boxes f x set p m.sets h)

pub member_nothing : (con : Con) (domains boxes : Boxes) (f x : ℕ) (set : Ranges) → con ≡ MemberDef f x set → IsWellMadeCon domains con → IsPair domains boxes f x →
    member_finding (box_of boxes f) (box_of boxes x) set ≡ None → quiet con boxes ≡ true
member_nothing con domains boxes f x set e w p h =
    let m : IsWellMadeCon domains (MemberDef f x set) = subst (λ (k : Con). IsWellMadeCon domains k) e w in
    let size = p.good.size in
    subst (λ (k : Con). quiet k boxes ≡ true) (sym e) (member_quiet domains boxes f x set p m.sets (λ k d lt. let n = m.named k d lt in omega arith) h)
