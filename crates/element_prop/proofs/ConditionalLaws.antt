-- What a conditional has to state, and when it is quiet.
use Rattle.std.proofs.Common.{◌≡◌, ℕ, ◌<◌, Bool, true, false, not, ◌&&◌, ◌||◌, [], ◌∷◌, ℤ, pos, length, All, refl, arith, subst, sym, ap, ◌∙◌, inl, inr, ◌⊎◌}
use Rattle.std.proofs.lemmas.Int.{ints}
use Rattle.std.proofs.lemmas.Bool.{and_parts, false_from_ne_true}
use Rattle.signed_clause.specs.Ranges.{Ranges, has, is_nil, IsValid}
use Rattle.signed_clause.specs.SetAlgebra.{is_disjoint, is_within, less}
use Rattle.signed_clause.specs.Clauses.{Boxes, box_of}
use Rattle.signed_clause.proofs.RangeSteps.{IsValid-less, has-less_valid}
use Rattle.signed_clause.proofs.SetFacts.{within_law, disjoint_law}
use Rattle.ground_form.specs.declared.con.Con.TheVariants.{CondDef}
use Rattle.ground_form.specs.Bounds.{low_of}
use Rattle.box_rules.specs.Quiet.{quiet}
use Rattle.rule_law.specs.Reasons.{IsReason}
use Rattle.rule_law.specs.Plans.{IsFlag, literals_of}
use Rattle.box_view.proofs.SetLaws.{is_disjoint-single, single-is_disjoint}
use Rattle.box_view.proofs.EndLaws.{has_low}
use Rattle.box_rules.proofs.QuietFrom.{quiet_from}
use Rattle.box_view.proofs.Leaving.{less_within, missing_within, less_disjoint, disjoint_rest, left_over, value_valid}
use Rattle.rule_law.proofs.PlanLaws.{ArePlanned, plan_reason, plan_acts_over}
use Rattle.rule_law.proofs.FlagPlans.{flag_other, bit_valid, IsPair, PairActs, pair_reason}
use Rattle.element_prop.specs.Within.{HasToLie, within_plan}
use Rattle.element_prop.specs.Conditionals.{IsCalm, HasToBeZero, either_plan}
use Rattle.element_prop.proofs.Triples.{IsTriple, turned, three_fixed, within_reason, two_differ, within_itself, in_other}

-- ---- quietness

-- the rule of a conditional, of boxes
abbrev Chosen : Ranges → Ranges → Ranges → Type 0
Chosen flags out item = ((not (has flags (pos 1)) || is_disjoint out item) && (not (has flags (pos 0)) || not (has out (pos 0)))) ≡ false

rule_false : (on off disjoint none : Bool) → (on ≡ false → off ≡ true) → (on ≡ true → off ≡ true → none ≡ true → disjoint ≡ false) → (on ≡ true → off ≡ false → disjoint ≡ false) → (on ≡ false → none ≡ false) →
    ((not on || disjoint) && (not off || none)) ≡ false
rule_false true true true true h k l m = absurd (let e = k refl refl refl in grind arith)
rule_false true true true false h k l m = refl
rule_false true true false s h k l m = refl
rule_false true false true s h k l m = absurd (let e = l refl refl in grind arith)
rule_false true false false s h k l m = refl
rule_false false true x true h k l m = absurd (let e = m refl in grind arith)
rule_false false true x false h k l m = refl
rule_false false false x s h k l m = absurd (let e = h refl in grind arith)

flag_rule : (v : ℤ) (disjoint none : Bool) → (v ≡ pos 0) ⊎ (v ≡ pos 1) → (v ≡ pos 1 → disjoint ≡ false) → (v ≡ pos 0 → none ≡ false) →
    ((not (has ((v, v) ∷ []) (pos 1)) || disjoint) && (not (has ((v, v) ∷ []) (pos 0)) || none)) ≡ false
flag_rule v disjoint none (inl e) h k =
    subst (λ (w : ℤ). ((not (has ((w, w) ∷ []) (pos 1)) || disjoint) && (not (has ((w, w) ∷ []) (pos 0)) || none)) ≡ false) (sym e) (rw (k e) refl)
flag_rule v disjoint none (inr e) h k =
    subst (λ (w : ℤ). ((not (has ((w, w) ∷ []) (pos 1)) || disjoint) && (not (has ((w, w) ∷ []) (pos 0)) || none)) ≡ false) (sym e) (rw (h e) refl)

in_set : (a b : Ranges) (v : ℤ) → IsValid a → IsValid b → is_within a b ≡ true → has a v ≡ true → has b v ≡ true
in_set a b v f g h k = (within_law a b f g).0 h v k

not_of : (b : Bool) → b ≡ true → not b ≡ false
not_of b h = rw h refl

not_not_of : (b : Bool) → not b ≡ true → b ≡ false
not_not_of true h = absurd cc
not_not_of false h = refl

only_zero : (v : ℤ) → has ((pos 0, pos 0) ∷ []) v ≡ true → has ((v, v) ∷ []) (pos 0) ≡ true
only_zero v h = grind (arith, ints)

zero_only : (v : ℤ) → has ((v, v) ∷ []) (pos 0) ≡ false → has ((pos 0, pos 0) ∷ []) v ≡ false
zero_only v h = grind (arith, ints)

calm_here : (out flags item : Ranges) → IsFlag flags → IsCalm out flags item → Chosen flags out item
calm_here out flags item f c =
    rule_false (has flags (pos 1)) (has flags (pos 0)) (is_disjoint out item) (not (has out (pos 0))) (flag_other true flags f)
    (λ a b e. c.common a) (λ a b. c.common a) (λ a. not_of (has out (pos 0)) (c.can_be_zero (flag_other true flags f a)))

calm_flag : (out flags item : Ranges) (v : ℤ) → IsFlag flags → IsCalm out flags item → has flags v ≡ true → Chosen ((v, v) ∷ []) out item
calm_flag out flags item v f c h =
    flag_rule v (is_disjoint out item) (not (has out (pos 0))) (f.bits v h) (λ e. c.common (subst (λ (z : ℤ). has flags z ≡ true) e h))
    (λ e. not_of (has out (pos 0)) (c.can_be_zero (subst (λ (z : ℤ). has flags z ≡ true) e h)))

calm_out : (out flags item : Ranges) (v : ℤ) → IsFlag flags → IsValid out → IsValid item → IsCalm out flags item → has out v ≡ true → Chosen flags ((v, v) ∷ []) item
calm_out out flags item v f s t c h =
    let valid = value_valid out v s h in
    let nought = bit_valid false in
    rw (is_disjoint-single v item valid t)
    (rule_false (has flags (pos 1)) (has flags (pos 0)) (not (has item v)) (not (has ((v, v) ∷ []) (pos 0))) (flag_other true flags f)
    (λ a b e.
    let other = zero_only v (not_not_of (has ((v, v) ∷ []) (pos 0)) e) in
    let law = has-less_valid out ((pos 0, pos 0) ∷ []) s nought v in
    let rest : has (less out ((pos 0, pos 0) ∷ [])) v ≡ true = law ∙ rw (h, other) refl in
    not_of (has item v) (in_set (less out ((pos 0, pos 0) ∷ [])) item v (IsValid-less out ((pos 0, pos 0) ∷ []) s nought) t (c.either a) rest))
    (λ a b. not_of (has item v) (in_set out item v s t (c.out_within b) h))
    (λ a. not_of (has ((v, v) ∷ []) (pos 0)) (only_zero v (in_set out ((pos 0, pos 0) ∷ []) v s nought (c.is_zero a) h))))

calm_item : (out flags item : Ranges) (v : ℤ) → IsFlag flags → IsValid out → IsValid item → IsCalm out flags item → has item v ≡ true → Chosen flags out ((v, v) ∷ [])
calm_item out flags item v f s t c h =
    let valid = value_valid item v t h in
    rw (single-is_disjoint v out valid s)
    (rule_false (has flags (pos 1)) (has flags (pos 0)) (not (has out v)) (not (has out (pos 0))) (flag_other true flags f)
    (λ a b e. absurd (let z = c.can_be_zero b in grind arith)) (λ a b. not_of (has out v) (in_set item out v t s (c.item_within b) h))
    (λ a. not_of (has out (pos 0)) (c.can_be_zero (flag_other true flags f a))))

pub conditional_quiet : (domains boxes : Boxes) (o f i : ℕ) → IsTriple domains boxes f o i → All (λ y. y < length boxes) (o ∷ f ∷ i ∷ []) → IsCalm (box_of boxes o) (box_of boxes f) (box_of boxes i) →
    quiet (CondDef o f i) boxes ≡ true
conditional_quiet domains boxes o f i t n c =
    let out = box_of boxes o in let flags = box_of boxes f in let item = box_of boxes i in
    let fo = t.good.narrow o in let fi = t.good.narrow i in
    quiet_from (CondDef o f i) boxes t.good.narrow n t.good.some (calm_here out flags item t.bits c)
    (three_fixed Chosen domains boxes f o i t (calm_here out flags item t.bits c) (λ v h. calm_flag out flags item v t.bits c h)
    (λ v h. calm_out out flags item v t.bits fo fi c h) (λ v h. calm_item out flags item v t.bits fo fi c h))

-- ---- the clauses

held_rule : (on off disjoint none : Bool) → off ≡ false → disjoint ≡ true → ((not on || disjoint) && (not off || none)) ≡ true
held_rule on off disjoint none h k = rw (h, k) (grind arith)

denied_rule : (on off disjoint none : Bool) → on ≡ false → none ≡ true → ((not on || disjoint) && (not off || none)) ≡ true
denied_rule on off disjoint none h k = rw (h, k) (grind arith)

both_rule : (on off disjoint none : Bool) → disjoint ≡ true → none ≡ true → ((not on || disjoint) && (not off || none)) ≡ true
both_rule on off disjoint none h k = rw (h, k) (grind arith)

pub out_reason : (domains boxes : Boxes) (o f i : ℕ) → IsTriple domains boxes f o i → HasToLie (box_of boxes f) (box_of boxes o) (box_of boxes i) →
    IsReason (CondDef o f i) domains boxes (literals_of domains (within_plan domains boxes f o i))
out_reason domains boxes o f i t h =
    within_reason (CondDef o f i) domains boxes f o i t h (λ rest e g k.
    held_rule (has (box_of rest f) (pos 1)) (has (box_of rest f) (pos 0)) (is_disjoint (box_of rest o) (box_of rest i)) (not (has (box_of rest o) (pos 0)))
    (ap (λ (z : Ranges). has z (pos 0)) e)
    (ap (λ (z : Ranges). is_disjoint z (box_of rest i)) g ∙ ap (λ (z : Ranges). is_disjoint (less (box_of domains o) (box_of boxes i)) z) k ∙ less_disjoint (box_of domains o) (box_of boxes i) (t.good.wide o) (t.good.narrow i)))

pub item_reason : (domains boxes : Boxes) (o f i : ℕ) → IsTriple domains boxes f o i → HasToLie (box_of boxes f) (box_of boxes i) (box_of boxes o) →
    IsReason (CondDef o f i) domains boxes (literals_of domains (within_plan domains boxes f i o))
item_reason domains boxes o f i t h =
    within_reason (CondDef o f i) domains boxes f i o (turned domains boxes f o i t) h (λ rest e g k.
    held_rule (has (box_of rest f) (pos 1)) (has (box_of rest f) (pos 0)) (is_disjoint (box_of rest o) (box_of rest i)) (not (has (box_of rest o) (pos 0)))
    (ap (λ (z : Ranges). has z (pos 0)) e)
    (ap (λ (z : Ranges). is_disjoint z (box_of rest i)) k ∙ ap (λ (z : Ranges). is_disjoint (box_of boxes o) z) g ∙ disjoint_rest (box_of domains i) (box_of boxes o) (t.good.wide i) (t.good.narrow o)))

no_zero : (d : Ranges) → IsValid d → has (less d ((pos 0, pos 0) ∷ [])) (pos 0) ≡ false
no_zero d f = has-less_valid d ((pos 0, pos 0) ∷ []) f (bit_valid false) (pos 0) ∙ last_false (has d (pos 0))
  where
    last_false : (b : Bool) → (b && false) ≡ false
    last_false b = grind arith

-- a box without 0 misses it
missing_zero : (b : Ranges) → IsValid b → has b (pos 0) ≡ false → is_disjoint b ((pos 0, pos 0) ∷ []) ≡ true
missing_zero b f h = single-is_disjoint (pos 0) b (bit_valid false) f ∙ ap (λ (z : Bool). not z) h

-- the flag is 1, or out is 0
pub zero_reason : (domains boxes : Boxes) (o f i : ℕ) → IsTriple domains boxes f o i → HasToBeZero (box_of boxes o) (box_of boxes f) →
    IsReason (CondDef o f i) domains boxes (literals_of domains ((f, (pos 0, pos 0) ∷ []) ∷ (o, less (box_of domains o) ((pos 0, pos 0) ∷ [])) ∷ []))
zero_reason domains boxes o f i t h =
    let g = t.good in let box = box_of boxes o in let domain = box_of domains o in
    let pair : IsPair domains boxes f o = record { good = g; flag = t.flag; var = t.first; differ = t.first_differs; bits = t.bits } in
    let nought = bit_valid false in
    let rest = IsValid-less domain ((pos 0, pos 0) ∷ []) (g.wide o) nought in
    let acts : PairActs false (box_of boxes f) box domain (less domain ((pos 0, pos 0) ∷ [])) =
    elim h [
      | inl k ↦ inl (k.0, missing_within box domain ((pos 0, pos 0) ∷ []) (g.narrow o) (g.wide o) nought (g.within o t.first) (missing_zero box (g.narrow o) k.1))
      | inr k ↦ inr (k.0, left_over domain (less domain ((pos 0, pos 0) ∷ [])) box ((pos 0, pos 0) ∷ []) (g.wide o) rest (g.narrow o) nought (in_other domain ((pos 0, pos 0) ∷ []) (g.wide o) nought) k.1)
    ] in
    pair_reason (CondDef o f i) domains boxes f o false (less domain ((pos 0, pos 0) ∷ [])) pair rest (less_within domain ((pos 0, pos 0) ∷ []) (g.wide o) nought) acts
    (λ left e k.
    denied_rule (has (box_of left f) (pos 1)) (has (box_of left f) (pos 0)) (is_disjoint (box_of left o) (box_of left i)) (not (has (box_of left o) (pos 0)))
    (ap (λ (z : Ranges). has z (pos 1)) e) (ap (λ (z : Ranges). not (has z (pos 0))) k ∙ ap (λ (z : Bool). not z) (no_zero domain (g.wide o))))

-- a value of the box that isn't 0 nor the item's
either_open : (d b s : Ranges) → IsValid d → IsValid b → IsValid s → is_within (less b ((pos 0, pos 0) ∷ [])) s ≡ false → is_within b (less d (less (less d ((pos 0, pos 0) ∷ [])) s)) ≡ false
either_open d b s f g t h =
    let nought = bit_valid false in
    let one = IsValid-less d ((pos 0, pos 0) ∷ []) f nought in
    let two = IsValid-less (less d ((pos 0, pos 0) ∷ [])) s one t in
    let three = IsValid-less d (less (less d ((pos 0, pos 0) ∷ [])) s) f two in
    let rest = IsValid-less b ((pos 0, pos 0) ∷ []) g nought in
    false_from_ne_true (is_within b (less d (less (less d ((pos 0, pos 0) ∷ [])) s))) (λ q.
    let all : is_within (less b ((pos 0, pos 0) ∷ [])) s ≡ true = (within_law (less b ((pos 0, pos 0) ∷ [])) s rest t).1 (λ v m.
    let parts = and_parts (has b v) (not (has ((pos 0, pos 0) ∷ []) v)) (sym (has-less_valid b ((pos 0, pos 0) ∷ []) g nought v) ∙ m) in
    let last = (within_law b (less d (less (less d ((pos 0, pos 0) ∷ [])) s)) g three).0 q v parts.0 in
    let a = has-less_valid d (less (less d ((pos 0, pos 0) ∷ [])) s) f two v in
    let e = has-less_valid (less d ((pos 0, pos 0) ∷ [])) s one t v in
    let c = has-less_valid d ((pos 0, pos 0) ∷ []) f nought v in
    by_tests (has d v) (has ((pos 0, pos 0) ∷ []) v) (has s v) _ _ _ a e c last parts.1) in grind arith)
  where
    by_tests : (d z s outer middle inner : Bool) → outer ≡ (d && not middle) → middle ≡ (inner && not s) → inner ≡ (d && not z) → outer ≡ true → not z ≡ true → s ≡ true
    by_tests d z true outer middle inner a b c e n = refl
    by_tests true false false outer middle inner a b c e n = absurd (grind arith)
    by_tests false false false outer middle inner a b c e n = absurd (grind arith)
    by_tests d true false outer middle inner a b c e n = absurd cc

within_both : (d s t : Ranges) → IsValid d → IsValid s → IsValid t → is_within (less (less d s) t) d ≡ true
within_both d s t f g h =
    let one = IsValid-less d s f g in
    (within_law (less (less d s) t) d (IsValid-less (less d s) t one h) f).1 (λ v m.
    let outer = and_parts (has (less d s) v) (not (has t v)) (sym (has-less_valid (less d s) t one h v) ∙ m) in
    (and_parts (has d v) (not (has s v)) (sym (has-less_valid d s f g v) ∙ outer.0)).0)

zero_gone : (d s : Ranges) → IsValid d → IsValid s → has (less (less d ((pos 0, pos 0) ∷ [])) s) (pos 0) ≡ false
zero_gone d s f g =
    has-less_valid (less d ((pos 0, pos 0) ∷ [])) s (IsValid-less d ((pos 0, pos 0) ∷ []) f (bit_valid false)) g (pos 0) ∙ ap (λ (b : Bool). b && not (has s (pos 0))) (no_zero d f)

pub either_reason : (domains boxes : Boxes) (o f i : ℕ) → IsTriple domains boxes f o i → is_within (less (box_of boxes o) ((pos 0, pos 0) ∷ [])) (box_of boxes i) ≡ false →
    IsReason (CondDef o f i) domains boxes (literals_of domains (either_plan domains boxes o i))
either_reason domains boxes o f i t h =
    let g = t.good in let d = box_of domains o in let b = box_of boxes o in let s = box_of boxes i in
    let nought = bit_valid false in
    let one = IsValid-less d ((pos 0, pos 0) ∷ []) (g.wide o) nought in
    let two = IsValid-less (less d ((pos 0, pos 0) ∷ [])) s one (g.narrow i) in
    let planned : ArePlanned domains (length boxes) (either_plan domains boxes o i) =
    (t.first, two, within_both d ((pos 0, pos 0) ∷ []) s (g.wide o) nought (g.narrow i), (t.second, g.narrow i, g.within i t.second, tt)) in
    plan_reason (CondDef o f i) domains boxes (either_plan domains boxes o i) g.wide planned (two_differ o i t.different)
    (λ rest k. both_rule (has (box_of rest f) (pos 1)) (has (box_of rest f) (pos 0)) (is_disjoint (box_of rest o) (box_of rest i)) (not (has (box_of rest o) (pos 0)))
    (ap (λ (z : Ranges). is_disjoint z (box_of rest i)) k.0 ∙ ap (λ (z : Ranges). is_disjoint (less (less d ((pos 0, pos 0) ∷ [])) s) z) k.1.0 ∙ less_disjoint (less d ((pos 0, pos 0) ∷ [])) s one (g.narrow i))
    (ap (λ (z : Ranges). not (has z (pos 0))) k.0 ∙ ap (λ (z : Bool). not z) (zero_gone d s (g.wide o) (g.narrow i))))
    (plan_acts_over domains boxes (length boxes) (o, less (less d ((pos 0, pos 0) ∷ [])) s) ((i, s) ∷ []) g.wide g.narrow planned (either_open d b s (g.wide o) (g.narrow o) (g.narrow i) h) (within_itself s (g.narrow i), tt))

-- ---- what the tests find

rest_of : (out item : Ranges) → IsValid out → IsValid item → is_within out item ≡ true → is_within (less out ((pos 0, pos 0) ∷ [])) item ≡ true
rest_of out item s t h =
    let nought = bit_valid false in
    (within_law (less out ((pos 0, pos 0) ∷ [])) item (IsValid-less out ((pos 0, pos 0) ∷ []) s nought) t).1 (λ v m.
    in_set out item v s t h (and_parts (has out v) (not (has ((pos 0, pos 0) ∷ []) v)) (sym (has-less_valid out ((pos 0, pos 0) ∷ []) s nought v) ∙ m)).0)

pub calm_held : (out flags item : Ranges) → IsFlag flags → has flags (pos 0) ≡ false → is_nil out ≡ false → IsValid out → IsValid item → is_within out item ≡ true → is_within item out ≡ true → IsCalm out flags item
calm_held out flags item f h n s t i j =
    let on = flag_other false flags f h in
    record {
      common = λ e. false_from_ne_true (is_disjoint out item) (λ q.
          let here = has_low out s n in
          let there = in_set out item (low_of out) s t i here in
          let no = (disjoint_law out item s t).0 q (low_of out) here in grind arith);
      out_within = λ e. i;
      item_within = λ e. j;
      can_be_zero = λ e. absurd (grind arith);
      is_zero = λ e. absurd (grind arith);
      either = λ e. rest_of out item s t i;
    }

pub calm_denied : (out flags item zeroes : Ranges) → IsFlag flags → has flags (pos 1) ≡ false → is_nil out ≡ false → IsValid out → zeroes ≡ (pos 0, pos 0) ∷ [] → is_within out zeroes ≡ true → IsCalm out flags item
calm_denied out flags item zeroes f h n s e i =
    let off = flag_other true flags f h in
    let within : is_within out ((pos 0, pos 0) ∷ []) ≡ true = subst (λ (z : Ranges). is_within out z ≡ true) e i in
    record {
      common = λ q. absurd (grind arith);
      out_within = λ q. absurd (grind arith);
      item_within = λ q. absurd (grind arith);
      can_be_zero = λ q.
          let here = has_low out s n in
          let nought = in_set out ((pos 0, pos 0) ∷ []) (low_of out) s (bit_valid false) within here in
          subst (λ (z : ℤ). has out z ≡ true) (is_nought (low_of out) nought) here;
      is_zero = λ q. within;
      either = λ q. absurd (grind arith);
    }
  where
    is_nought : (v : ℤ) → has ((pos 0, pos 0) ∷ []) v ≡ true → v ≡ pos 0
    is_nought v m = grind (arith, ints)
