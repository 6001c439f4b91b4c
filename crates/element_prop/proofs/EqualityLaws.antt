-- What an equality has to state, and when it is quiet.
use Rattle.std.proofs.Common.{◌≡◌, ℕ, ◌<◌, Bool, true, false, not, ◌&&◌, ◌||◌, [], ◌∷◌, ℤ, pos, length, All, refl, arith, subst, sym, ap, ◌∙◌, inl, inr, ◌⊎◌}
use Rattle.std.specs.Ordering.{int_eq}
use Rattle.std.proofs.lemmas.Bool.{and_parts, false_from_ne_true}
use Rattle.std.proofs.lemmas.Bool.Decides.{Decides-int_eq}
use Rattle.signed_clause.specs.Ranges.{Ranges, has, is_nil, IsValid}
use Rattle.signed_clause.specs.SetAlgebra.{is_disjoint, is_within, less}
use Rattle.signed_clause.specs.Clauses.{Boxes, box_of}
use Rattle.signed_clause.proofs.SetFacts.{within_law, disjoint_law}
use Rattle.ground_form.specs.declared.con.Con.TheVariants.{EqDef}
use Rattle.ground_form.specs.Bounds.{low_of, high_of}
use Rattle.box_rules.specs.Refuted.{fixed_at, same_single}
use Rattle.box_rules.specs.Quiet.{quiet}
use Rattle.rule_law.specs.Reasons.{Acts, IsReason}
use Rattle.rule_law.specs.Plans.{IsFlag, literals_of}
use Rattle.box_rules.proofs.FixedLaws.{fixed_value, single_fixed}
use Rattle.box_view.proofs.SetLaws.{is_disjoint-single, single-is_disjoint}
use Rattle.box_view.proofs.EndLaws.{has_low}
use Rattle.box_rules.proofs.QuietFrom.{quiet_from}
use Rattle.box_view.proofs.Leaving.{less_disjoint, disjoint_rest, has_one, one_within, value_valid}
use Rattle.rule_law.proofs.PlanLaws.{ArePlanned, plan_reason, plan_acts_head, plan_acts_tail}
use Rattle.rule_law.proofs.FlagPlans.{in_domain, flag_other, flag_only, bit_valid}
use Rattle.element_prop.specs.Within.{HasToLie, within_plan}
use Rattle.element_prop.specs.Equalities.{IsCalm, AreBothAt, same_plan}
use Rattle.element_prop.proofs.Triples.{IsTriple, turned, three_fixed, within_reason, all_differ}

-- ---- single values

pub fixed_has : (s : Ranges) (w : ℤ) → IsValid s → fixed_at s w ≡ true → has s w ≡ true
fixed_has s w f h =
    let parts = and_parts (not (is_nil s)) (int_eq (low_of s) w && int_eq (high_of s) w) h in
    let ends = and_parts (int_eq (low_of s) w) (int_eq (high_of s) w) parts.1 in
    let some : is_nil s ≡ false = grind arith in
    subst (λ (z : ℤ). has s z ≡ true) ((Decides-int_eq (low_of s) w).0 ends.0) (has_low s f some)

fixed_low : (s : Ranges) (w : ℤ) → fixed_at s w ≡ true → low_of s ≡ w
fixed_low s w h =
    let parts = and_parts (not (is_nil s)) (int_eq (low_of s) w && int_eq (high_of s) w) h in
    let ends = and_parts (int_eq (low_of s) w) (int_eq (high_of s) w) parts.1 in (Decides-int_eq (low_of s) w).0 ends.0

fixed_here : (v : ℤ) → fixed_at ((v, v) ∷ []) v ≡ true
fixed_here v = single_fixed v v ∙ (Decides-int_eq v v).1 refl

pub lies_in_one : (s : Ranges) (w : ℤ) → IsValid s → IsValid ((w, w) ∷ []) → fixed_at s w ≡ true → is_within s ((w, w) ∷ []) ≡ true
lies_in_one s w f g h =
    (within_law s ((w, w) ∷ []) f g).1 (λ v k. let e = fixed_value s w v f h k in subst (λ (z : ℤ). has ((w, w) ∷ []) z ≡ true) (sym e) (has_one w))

-- one value beside a set
one_same : (v : ℤ) (s : Ranges) → same_single ((v, v) ∷ []) s ≡ fixed_at s v
one_same v s = rw (fixed_here v) refl

same_one : (s : Ranges) (v : ℤ) → same_single s ((v, v) ∷ []) ≡ true → fixed_at s v ≡ true
same_one s v h =
    let parts = and_parts (fixed_at s (low_of s)) (fixed_at ((v, v) ∷ []) (low_of s)) h in
    let e : v ≡ low_of s = (Decides-int_eq v (low_of s)).0 (sym (single_fixed v (low_of s)) ∙ parts.1) in
    subst (λ (z : ℤ). fixed_at s z ≡ true) (sym e) parts.0

-- ---- quietness

-- the rule of an equality, of boxes
abbrev Equal : Ranges → Ranges → Ranges → Type 0
Equal flags left right = ((not (has flags (pos 1)) || is_disjoint left right) && (not (has flags (pos 0)) || same_single left right)) ≡ false

-- where the flag can't be 1 it can be 0
rule_false : (on off disjoint same : Bool) → (on ≡ false → off ≡ true) → (on ≡ true → off ≡ true → same ≡ true → disjoint ≡ false) → (on ≡ true → off ≡ false → disjoint ≡ false) → (on ≡ false → same ≡ false) →
    ((not on || disjoint) && (not off || same)) ≡ false
rule_false true true true true h k l m = absurd (let e = k refl refl refl in grind arith)
rule_false true true true false h k l m = refl
rule_false true true false s h k l m = refl
rule_false true false true s h k l m = absurd (let e = l refl refl in grind arith)
rule_false true false false s h k l m = refl
rule_false false true x true h k l m = absurd (let e = m refl in grind arith)
rule_false false true x false h k l m = refl
rule_false false false x s h k l m = absurd (let e = h refl in grind arith)

flag_rule : (v : ℤ) (disjoint same : Bool) → (v ≡ pos 0) ⊎ (v ≡ pos 1) → (v ≡ pos 1 → disjoint ≡ false) → (v ≡ pos 0 → same ≡ false) →
    ((not (has ((v, v) ∷ []) (pos 1)) || disjoint) && (not (has ((v, v) ∷ []) (pos 0)) || same)) ≡ false
flag_rule v disjoint same (inl e) h k =
    subst (λ (w : ℤ). ((not (has ((w, w) ∷ []) (pos 1)) || disjoint) && (not (has ((w, w) ∷ []) (pos 0)) || same)) ≡ false) (sym e) (rw (k e) refl)
flag_rule v disjoint same (inr e) h k =
    subst (λ (w : ℤ). ((not (has ((w, w) ∷ []) (pos 1)) || disjoint) && (not (has ((w, w) ∷ []) (pos 0)) || same)) ≡ false) (sym e) (rw (h e) refl)

in_set : (a b : Ranges) (v : ℤ) → IsValid a → IsValid b → is_within a b ≡ true → has a v ≡ true → has b v ≡ true
in_set a b v f g h k = (within_law a b f g).0 h v k

not_of : (b : Bool) → b ≡ true → not b ≡ false
not_of b h = rw h refl

calm_here : (flags left right : Ranges) → IsFlag flags → IsCalm flags left right → Equal flags left right
calm_here flags left right f c =
    rule_false (has flags (pos 1)) (has flags (pos 0)) (is_disjoint left right) (same_single left right) (flag_other true flags f)
    (λ a b e. c.common a) (λ a b. c.common a) (λ a. c.differ (flag_other true flags f a))

calm_flag : (flags left right : Ranges) (v : ℤ) → IsFlag flags → IsCalm flags left right → has flags v ≡ true → Equal ((v, v) ∷ []) left right
calm_flag flags left right v f c h =
    flag_rule v (is_disjoint left right) (same_single left right) (f.bits v h) (λ e. c.common (subst (λ (z : ℤ). has flags z ≡ true) e h)) (λ e. c.differ (subst (λ (z : ℤ). has flags z ≡ true) e h))

calm_left : (flags left right : Ranges) (v : ℤ) → IsFlag flags → IsValid left → IsValid right → IsCalm flags left right → has left v ≡ true → Equal flags ((v, v) ∷ []) right
calm_left flags left right v f s t c h =
    let valid = value_valid left v s h in
    rw (is_disjoint-single v right valid t, one_same v right)
    (rule_false (has flags (pos 1)) (has flags (pos 0)) (not (has right v)) (fixed_at right v) (flag_other true flags f)
    (λ a b e. not_of (has right v) (fixed_has right v t e)) (λ a b. not_of (has right v) (in_set left right v s t (c.left_within b) h))
    (λ a. false_from_ne_true (fixed_at right v) (λ q. let n = c.right_value a v q in grind arith)))

calm_right : (flags left right : Ranges) (v : ℤ) → IsFlag flags → IsValid left → IsValid right → IsCalm flags left right → has right v ≡ true → Equal flags left ((v, v) ∷ [])
calm_right flags left right v f s t c h =
    let valid = value_valid right v t h in
    rw (single-is_disjoint v left valid s)
    (rule_false (has flags (pos 1)) (has flags (pos 0)) (not (has left v)) (same_single left ((v, v) ∷ [])) (flag_other true flags f)
    (λ a b e. not_of (has left v) (fixed_has left v s (same_one left v e))) (λ a b. not_of (has left v) (in_set right left v t s (c.right_within b) h))
    (λ a. false_from_ne_true (same_single left ((v, v) ∷ [])) (λ q. let n = c.left_value a v (same_one left v q) in grind arith)))

pub equality_quiet : (domains boxes : Boxes) (f l r : ℕ) → IsTriple domains boxes f l r → All (λ y. y < length boxes) (f ∷ l ∷ r ∷ []) → IsCalm (box_of boxes f) (box_of boxes l) (box_of boxes r) →
    quiet (EqDef f l r) boxes ≡ true
equality_quiet domains boxes f l r t n c =
    let flags = box_of boxes f in let left = box_of boxes l in let right = box_of boxes r in
    let fl = t.good.narrow l in let fr = t.good.narrow r in
    quiet_from (EqDef f l r) boxes t.good.narrow n t.good.some (calm_here flags left right t.bits c)
    (three_fixed Equal domains boxes f l r t (calm_here flags left right t.bits c) (λ v h. calm_flag flags left right v t.bits c h)
    (λ v h. calm_left flags left right v t.bits fl fr c h) (λ v h. calm_right flags left right v t.bits fl fr c h))

-- ---- the clauses

held_rule : (on off disjoint same : Bool) → off ≡ false → disjoint ≡ true → ((not on || disjoint) && (not off || same)) ≡ true
held_rule on off disjoint same h k = rw (h, k) (grind arith)

denied_rule : (on off disjoint same : Bool) → on ≡ false → same ≡ true → ((not on || disjoint) && (not off || same)) ≡ true
denied_rule on off disjoint same h k = rw (h, k) (grind arith)

pub left_reason : (domains boxes : Boxes) (f l r : ℕ) → IsTriple domains boxes f l r → HasToLie (box_of boxes f) (box_of boxes l) (box_of boxes r) →
    IsReason (EqDef f l r) domains boxes (literals_of domains (within_plan domains boxes f l r))
left_reason domains boxes f l r t h =
    within_reason (EqDef f l r) domains boxes f l r t h (λ rest e g i.
    held_rule (has (box_of rest f) (pos 1)) (has (box_of rest f) (pos 0)) (is_disjoint (box_of rest l) (box_of rest r)) (same_single (box_of rest l) (box_of rest r))
    (ap (λ (z : Ranges). has z (pos 0)) e)
    (ap (λ (z : Ranges). is_disjoint z (box_of rest r)) g ∙ ap (λ (z : Ranges). is_disjoint (less (box_of domains l) (box_of boxes r)) z) i ∙ less_disjoint (box_of domains l) (box_of boxes r) (t.good.wide l) (t.good.narrow r)))

pub right_reason : (domains boxes : Boxes) (f l r : ℕ) → IsTriple domains boxes f l r → HasToLie (box_of boxes f) (box_of boxes r) (box_of boxes l) →
    IsReason (EqDef f l r) domains boxes (literals_of domains (within_plan domains boxes f r l))
right_reason domains boxes f l r t h =
    within_reason (EqDef f l r) domains boxes f r l (turned domains boxes f l r t) h (λ rest e g i.
    held_rule (has (box_of rest f) (pos 1)) (has (box_of rest f) (pos 0)) (is_disjoint (box_of rest l) (box_of rest r)) (same_single (box_of rest l) (box_of rest r))
    (ap (λ (z : Ranges). has z (pos 0)) e)
    (ap (λ (z : Ranges). is_disjoint z (box_of rest r)) i ∙ ap (λ (z : Ranges). is_disjoint (box_of boxes l) z) g ∙ disjoint_rest (box_of domains r) (box_of boxes l) (t.good.wide r) (t.good.narrow l)))

record CanBe (flags left right : Ranges) (v : ℤ) : Type 0 where
  flag : has flags (pos 0) ≡ true
  left_has : has left v ≡ true
  right_has : has right v ≡ true

can_be : (flags left right : Ranges) (v : ℤ) → IsFlag flags → IsValid left → IsValid right → AreBothAt flags left right v → CanBe flags left right v
can_be flags left right v f s t (inl h) = record { flag = h.0; left_has = fixed_has left v s h.1; right_has = fixed_has right v t h.2 }
can_be flags left right v f s t (inr h) = elim h.1 [
  | inl k ↦ record { flag = flag_other true flags f h.0; left_has = fixed_has left v s k.0; right_has = k.1 }
  | inr k ↦ record { flag = flag_other true flags f h.0; left_has = k.1; right_has = fixed_has right v t k.0 }
]

same_acts : (domains boxes : Boxes) (f l r : ℕ) (v : ℤ) → IsTriple domains boxes f l r → ArePlanned domains (length boxes) (same_plan f l r v) → IsValid ((v, v) ∷ []) → AreBothAt (box_of boxes f) (box_of boxes l) (box_of boxes r) v →
    Acts boxes (literals_of domains (same_plan f l r v))
same_acts domains boxes f l r v t p one (inl h) =
    let g = t.good in
    plan_acts_head domains boxes (length boxes) (f, (pos 0, pos 0) ∷ []) ((l, (v, v) ∷ []) ∷ (r, (v, v) ∷ []) ∷ []) (pos 0) g.wide g.narrow p h.0 refl
    (lies_in_one (box_of boxes l) v (g.narrow l) one h.1, (lies_in_one (box_of boxes r) v (g.narrow r) one h.2, tt))
same_acts domains boxes f l r v t p one (inr h) =
    let g = t.good in
    plan_acts_tail domains boxes (length boxes) (f, (pos 0, pos 0) ∷ []) ((l, (v, v) ∷ []) ∷ (r, (v, v) ∷ []) ∷ []) g.wide g.narrow p (flag_only false (box_of boxes f) t.bits h.0) (elim h.1 [
      | inl k ↦ plan_acts_tail domains boxes (length boxes) (l, (v, v) ∷ []) ((r, (v, v) ∷ []) ∷ []) g.wide g.narrow p.3 (lies_in_one (box_of boxes l) v (g.narrow l) one k.0)
          (plan_acts_head domains boxes (length boxes) (r, (v, v) ∷ []) [] v g.wide g.narrow p.3.3 k.1 (has_one v) tt)
      | inr k ↦ plan_acts_head domains boxes (length boxes) (l, (v, v) ∷ []) ((r, (v, v) ∷ []) ∷ []) v g.wide g.narrow p.3 k.1 (has_one v)
          (lies_in_one (box_of boxes r) v (g.narrow r) one k.0, tt)
    ])

same_here : (v : ℤ) → same_single ((v, v) ∷ []) ((v, v) ∷ []) ≡ true
same_here v = one_same v ((v, v) ∷ []) ∙ fixed_here v

pub same_reason : (domains boxes : Boxes) (f l r : ℕ) (v : ℤ) → IsTriple domains boxes f l r → AreBothAt (box_of boxes f) (box_of boxes l) (box_of boxes r) v →
    IsReason (EqDef f l r) domains boxes (literals_of domains (same_plan f l r v))
same_reason domains boxes f l r v t h =
    let g = t.good in
    let can = can_be (box_of boxes f) (box_of boxes l) (box_of boxes r) v t.bits (g.narrow l) (g.narrow r) h in
    let one = value_valid (box_of boxes l) v (g.narrow l) can.left_has in
    let planned : ArePlanned domains (length boxes) (same_plan f l r v) = (
      t.flag,
      bit_valid false,
      one_within (box_of domains f) (pos 0) (g.wide f) (bit_valid false) (in_domain domains boxes f (pos 0) g t.flag can.flag),
      (
        t.first,
        one,
        one_within (box_of domains l) v (g.wide l) one (in_domain domains boxes l v g t.first can.left_has),
        (t.second, one, one_within (box_of domains r) v (g.wide r) one (in_domain domains boxes r v g t.second can.right_has), tt),
      ),
    ) in
    plan_reason (EqDef f l r) domains boxes (same_plan f l r v) g.wide planned (all_differ f l r t.first_differs t.second_differs t.different)
    (λ rest k. denied_rule (has (box_of rest f) (pos 1)) (has (box_of rest f) (pos 0)) (is_disjoint (box_of rest l) (box_of rest r)) (same_single (box_of rest l) (box_of rest r))
    (ap (λ (z : Ranges). has z (pos 1)) k.0)
    (ap (λ (z : Ranges). same_single z (box_of rest r)) k.1.0 ∙ ap (λ (z : Ranges). same_single ((v, v) ∷ []) z) k.1.1.0 ∙ same_here v))
    (same_acts domains boxes f l r v t planned one h)

-- ---- what the tests find

pub calm_held : (flags left right : Ranges) → IsFlag flags → has flags (pos 0) ≡ false → is_nil left ≡ false → IsValid left → IsValid right → is_within left right ≡ true → is_within right left ≡ true → IsCalm flags left right
calm_held flags left right f h n s t i j =
    let on = flag_other false flags f h in
    record {
      common = λ e. false_from_ne_true (is_disjoint left right) (λ q.
          let here = has_low left s n in
          let there = in_set left right (low_of left) s t i here in
          let no = (disjoint_law left right s t).0 q (low_of left) here in grind arith);
      left_within = λ e. i;
      right_within = λ e. j;
      differ = λ e. absurd (grind arith);
      left_value = λ e. absurd (grind arith);
      right_value = λ e. absurd (grind arith);
    }

pub calm_denied : (flags left right : Ranges) → IsFlag flags → has flags (pos 1) ≡ false → IsValid right → ((v : ℤ) → fixed_at left v ≡ true → has right v ≡ false) → ((v : ℤ) → fixed_at right v ≡ true → has left v ≡ false) → IsCalm flags left right
calm_denied flags left right f h t one two =
    let off = flag_other true flags f h in
    record {
      common = λ e. absurd (grind arith);
      left_within = λ e. absurd (grind arith);
      right_within = λ e. absurd (grind arith);
      differ = λ e. false_from_ne_true (same_single left right) (λ q.
          let parts = and_parts (fixed_at left (low_of left)) (fixed_at right (low_of left)) q in
          let yes = fixed_has right (low_of left) t parts.1 in
          let no = one (low_of left) parts.0 in grind arith);
      left_value = λ e. one;
      right_value = λ e. two;
    }
