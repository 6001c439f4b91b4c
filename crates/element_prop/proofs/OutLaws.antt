-- Out of an element has a value that an item has.
use Rattle.std.proofs.Common.{◌≡◌, ℕ, zero, suc, ◌<◌, Bool, true, false, not, ◌&&◌, ◌||◌, cond, List, [], ◌∷◌, ℤ, length, All, refl, arith, subst, sym, ap, ◌∙◌}
use Rattle.std.specs.Prelude.{◌==◌}
use Rattle.std.proofs.lemmas.Bool.{and_parts, and_from, false_from_ne_true}
use Rattle.signed_clause.specs.Ranges.{Ranges, has, IsValid}
use Rattle.signed_clause.specs.SetAlgebra.{is_disjoint, is_within, less}
use Rattle.signed_clause.specs.Clauses.{Boxes, Literals, box_of}
use Rattle.signed_clause.proofs.RangeSteps.{IsValid-less, has-less_valid}
use Rattle.signed_clause.proofs.SetFacts.{within_law, disjoint_law}
use Rattle.ground_form.specs.declared.con.Con.{Con}
use Rattle.ground_form.specs.declared.con.Con.TheVariants.{ElementDef}
use Rattle.ground_form.specs.Meaning.{term_vars, clause_vars, vars_of}
use Rattle.box_rules.specs.Refuted.{none_picked}
use Rattle.rule_law.specs.Reasons.{IsReason, has_number, no_repeat}
use Rattle.rule_law.specs.Plans.{literals_of}
use Rattle.box_view.proofs.EndLaws.{AreSets}
use Rattle.box_view.proofs.Leaving.{less_within, less_disjoint, missing_within}
use Rattle.rule_law.proofs.PlanLaws.{ArePlanned, Leaves, AllLeft, plan_reason, plan_acts_head}
use Rattle.rule_law.proofs.FlagPlans.{in_domain}
use Rattle.element_prop.specs.Elements.{without_boxes, items_plan, out_plan, some_offers}
use Rattle.element_prop.proofs.Triples.{within_itself}
use Rattle.element_prop.proofs.ElementLaws.{IsElement}

-- ---- what is left of out

abbrev step : ℤ × ℕ → Ranges → Boxes → Ranges → Ranges
step t index boxes s = cond (has index t.0) (less s (box_of boxes t.1)) s

step_valid : (t : ℤ × ℕ) (index : Ranges) (boxes : Boxes) (s : Ranges) → AreSets boxes → IsValid s → IsValid (step t index boxes s)
step_valid t index boxes s b f = elim (has index t.0) as (λ c. IsValid (cond c (less s (box_of boxes t.1)) s)) [ true ↦ IsValid-less s (box_of boxes t.1) f (b t.1) | false ↦ f ]

step_less : (t : ℤ × ℕ) (index : Ranges) (boxes : Boxes) (s : Ranges) (w : ℤ) → AreSets boxes → IsValid s → has (step t index boxes s) w ≡ true → has s w ≡ true
step_less t index boxes s w b f =
    elim (has index t.0) as (λ c. has (cond c (less s (box_of boxes t.1)) s) w ≡ true → has s w ≡ true) [
      | true ↦ λ h. (and_parts (has s w) (not (has (box_of boxes t.1) w)) (sym (has-less_valid s (box_of boxes t.1) f (b t.1) w) ∙ h)).0
      | false ↦ λ h. h
    ]

step_gone : (t : ℤ × ℕ) (index : Ranges) (boxes : Boxes) (s : Ranges) (w : ℤ) → AreSets boxes → IsValid s → has index t.0 ≡ true → has (step t index boxes s) w ≡ true → has (box_of boxes t.1) w ≡ false
step_gone t index boxes s w b f can h =
    let now : has (less s (box_of boxes t.1)) w ≡ true = sym (ap (λ c. has (cond c (less s (box_of boxes t.1)) s) w) can) ∙ h in
    turned (has (box_of boxes t.1) w) (and_parts (has s w) (not (has (box_of boxes t.1) w)) (sym (has-less_valid s (box_of boxes t.1) f (b t.1) w) ∙ now)).1
  where
    turned : (c : Bool) → not c ≡ true → c ≡ false
    turned c k = grind arith

pub boxes_valid : (ts : List (ℤ × ℕ)) (index : Ranges) (boxes : Boxes) (s : Ranges) → AreSets boxes → IsValid s → IsValid (without_boxes ts index boxes s)
boxes_valid [] index boxes s b f = f
boxes_valid (t ∷ ts) index boxes s b f = boxes_valid ts index boxes (step t index boxes s) b (step_valid t index boxes s b f)

boxes_less : (ts : List (ℤ × ℕ)) (index : Ranges) (boxes : Boxes) (s : Ranges) (w : ℤ) → AreSets boxes → IsValid s → has (without_boxes ts index boxes s) w ≡ true → has s w ≡ true
boxes_less [] index boxes s w b f h = h
boxes_less (t ∷ ts) index boxes s w b f h =
    step_less t index boxes s w b f (boxes_less ts index boxes (step t index boxes s) w b (step_valid t index boxes s b f) h)

boxes_gone : (ts : List (ℤ × ℕ)) (index : Ranges) (boxes : Boxes) (s : Ranges) → AreSets boxes → IsValid s →
    All (λ t. has index t.0 ≡ true → (w : ℤ) → has (without_boxes ts index boxes s) w ≡ true → has (box_of boxes t.1) w ≡ false) ts
boxes_gone [] index boxes s b f k d lt = absurd (omega arith)
boxes_gone (t ∷ ts) index boxes s b f zero d lt = λ can w h. step_gone t index boxes s w b f can (boxes_less ts index boxes (step t index boxes s) w b (step_valid t index boxes s b f) h)
boxes_gone (t ∷ ts) index boxes s b f (suc k) d lt = boxes_gone ts index boxes (step t index boxes s) b (step_valid t index boxes s b f) k d (omega arith)

-- a value that none of them has stays
boxes_kept : (ts : List (ℤ × ℕ)) (index : Ranges) (boxes : Boxes) (s : Ranges) (v : ℤ) → AreSets boxes → IsValid s → has s v ≡ true → some_offers ts v index boxes ≡ false → has (without_boxes ts index boxes s) v ≡ true
boxes_kept [] index boxes s v b f h n = h
boxes_kept (t ∷ ts) index boxes s v b f h n =
    let here : (has index t.0 && has (box_of boxes t.1) v) ≡ false = grind arith in
    let more : some_offers ts v index boxes ≡ false = grind arith in
    let P : Bool → Type 0 = λ c. (c && has (box_of boxes t.1) v) ≡ false → has (cond c (less s (box_of boxes t.1)) s) v ≡ true in
    boxes_kept ts index boxes (step t index boxes s) v b (step_valid t index boxes s b f) ((elim (has index t.0) as P [
      | true ↦ λ k. has-less_valid s (box_of boxes t.1) f (b t.1) v ∙ rw (h, k) refl
      | false ↦ λ k. h
    ]) here) more

-- ---- what is left of the items

items_planned : (ts : List (ℤ × ℕ)) (index : Ranges) (domains : Boxes) (n : ℕ) (s : Ranges) → AreSets domains → IsValid s → All (λ t. t.1 < n) ts → ArePlanned domains n (items_plan ts index domains s)
items_planned [] index domains n s a f h = tt
items_planned (t ∷ ts) index domains n s a f h =
    let more = items_planned ts index domains n s a f (λ k d lt. h (suc k) d (omega arith)) in
    elim (has index t.0) as (λ c. ArePlanned domains n (cond c ((t.1, less (box_of domains t.1) s) ∷ items_plan ts index domains s) (items_plan ts index domains s))) [
      | true ↦ (h 0 t (omega arith), IsValid-less (box_of domains t.1) s (a t.1) f, less_within (box_of domains t.1) s (a t.1) f, more)
      | false ↦ more
    ]

not_planned : (y : ℕ) (ts : List (ℤ × ℕ)) (index : Ranges) (domains : Boxes) (s : Ranges) → has_number y (term_vars ts) ≡ false → has_number y (clause_vars (items_plan ts index domains s)) ≡ false
not_planned y [] index domains s h = refl
not_planned y (t ∷ ts) index domains s h =
    let this : (t.1 == y) ≡ false = grind arith in
    let rest : has_number y (term_vars ts) ≡ false = grind arith in
    let more = not_planned y ts index domains s rest in
    elim (has index t.0) as (λ c. has_number y (clause_vars (cond c ((t.1, less (box_of domains t.1) s) ∷ items_plan ts index domains s) (items_plan ts index domains s))) ≡ false) [
      | true ↦ rw (this, more) refl
      | false ↦ more
    ]

turned_false : (b : Bool) → not b ≡ true → b ≡ false
turned_false b k = grind arith

items_differ : (ts : List (ℤ × ℕ)) (index : Ranges) (domains : Boxes) (s : Ranges) → no_repeat (term_vars ts) ≡ true → no_repeat (clause_vars (items_plan ts index domains s)) ≡ true
items_differ [] index domains s h = refl
items_differ (t ∷ ts) index domains s h =
    let p = and_parts (not (has_number t.1 (term_vars ts))) (no_repeat (term_vars ts)) h in
    let none = not_planned t.1 ts index domains s (turned_false (has_number t.1 (term_vars ts)) p.0) in
    let more = items_differ ts index domains s p.1 in
    elim (has index t.0) as (λ c. no_repeat (clause_vars (cond c ((t.1, less (box_of domains t.1) s) ∷ items_plan ts index domains s) (items_plan ts index domains s))) ≡ true) [
      | true ↦ rw (none, more) refl
      | false ↦ more
    ]

none_left : (ts : List (ℤ × ℕ)) (index : Ranges) (domains left : Boxes) (s : Ranges) → AreSets domains → IsValid s → Leaves left (items_plan ts index domains s) → none_picked s index ts left ≡ true
none_left [] index domains left s a f l = refl
none_left (t ∷ ts) index domains left s a f l =
    let P : Bool → Type 0 = λ c. Leaves left (cond c ((t.1, less (box_of domains t.1) s) ∷ items_plan ts index domains s) (items_plan ts index domains s)) → ((not c || is_disjoint (box_of left t.1) s) && none_picked s index ts left) ≡ true in
    (elim (has index t.0) as P [
      | true ↦ λ k. and_from (is_disjoint (box_of left t.1) s) (none_picked s index ts left) (ap (λ (z : Ranges). is_disjoint z s) k.0 ∙ less_disjoint (box_of domains t.1) s (a t.1) f) (none_left ts index domains left s a f k.1)
      | false ↦ λ k. none_left ts index domains left s a f k
    ]) l

items_left : (ts : List (ℤ × ℕ)) (index : Ranges) (domains boxes : Boxes) (s : Ranges) → AreSets domains → AreSets boxes → IsValid s → All (λ t. is_within (box_of boxes t.1) (box_of domains t.1) ≡ true) ts →
    All (λ t. has index t.0 ≡ true → (w : ℤ) → has s w ≡ true → has (box_of boxes t.1) w ≡ false) ts → AllLeft boxes (items_plan ts index domains s)
items_left [] index domains boxes s a b f i g = tt
items_left (t ∷ ts) index domains boxes s a b f i g =
    let more = items_left ts index domains boxes s a b f (λ k d lt. i (suc k) d (omega arith)) (λ k d lt. g (suc k) d (omega arith)) in
    let P : Bool → Type 0 = λ c. has index t.0 ≡ c → AllLeft boxes (cond c ((t.1, less (box_of domains t.1) s) ∷ items_plan ts index domains s) (items_plan ts index domains s)) in
    (elim (has index t.0) as P [
      | true ↦ λ e. (
        missing_within (box_of boxes t.1) (box_of domains t.1) s (b t.1) (a t.1) f (i 0 t (omega arith))
            ((disjoint_law (box_of boxes t.1) s (b t.1) f).1 (λ w h. false_from_ne_true (has s w) (λ q. let no = g 0 t (omega arith) e w q in absurd cc))),
        more,
      )
      | false ↦ λ e. more
    ]) refl

-- ---- the reason

pub plan_named : (domains : Boxes) (n : ℕ) (plan : Literals) → ArePlanned domains n plan → All (λ e. e.0 < n) plan
plan_named domains n [] p k d lt = absurd (omega arith)
plan_named domains n (e ∷ es) p zero d lt = p.0
plan_named domains n (e ∷ es) p (suc k) d lt = plan_named domains n es p.3 k d (omega arith)

pub record IsOutPlanned (con : Con) (domains boxes : Boxes) (plan : Literals) : Type 0 where
  pub named : All (λ e. e.0 < length domains) plan
  pub reason : IsReason con domains boxes (literals_of domains plan)

pub out_reason : (con : Con) (domains boxes : Boxes) (o x : ℕ) (items : List (ℤ × ℕ)) (v : ℤ) → IsElement con domains boxes o x items → All (λ t. t.1 < length boxes) items → no_repeat (vars_of con) ≡ true →
    has (box_of boxes o) v ≡ true → some_offers items v (box_of boxes x) boxes ≡ false → IsOutPlanned con domains boxes (out_plan items domains boxes o x (without_boxes items (box_of boxes x) boxes (box_of domains o)))
out_reason con domains boxes o x items v t named differ member none =
    let g = t.good in
    let index = box_of boxes x in
    let d = box_of domains o in
    let s = without_boxes items index boxes d in
    let valid = boxes_valid items index boxes d g.narrow (g.wide o) in
    let rest = items_plan items index domains s in
    let planned : ArePlanned domains (length boxes) (out_plan items domains boxes o x s) = (
      t.out,
      valid,
      (within_law s d valid (g.wide o)).1 (λ w h. boxes_less items index boxes d w g.narrow (g.wide o) h),
      (t.index, g.narrow x, g.within x t.index, items_planned items index domains (length boxes) s g.wide valid named),
    ) in
    let all : no_repeat (o ∷ x ∷ term_vars items) ≡ true = sym (ap (λ (k : Con). no_repeat (vars_of k)) t.is) ∙ differ in
    let one = and_parts (not (has_number o (x ∷ term_vars items))) (no_repeat (x ∷ term_vars items)) all in
    let two = and_parts (not (has_number x (term_vars items))) (no_repeat (term_vars items)) one.1 in
    let first : has_number o (x ∷ term_vars items) ≡ false = turned_false (has_number o (x ∷ term_vars items)) one.0 in
    let different : (x == o) ≡ false = grind arith in
    let out_different = not_planned o items index domains s (grind arith) in
    let index_different = not_planned x items index domains s (turned_false (has_number x (term_vars items)) two.0) in
    let others = items_differ items index domains s two.1 in
    let size = g.size in
    record {
      named = λ k e lt. let n = plan_named domains (length boxes) (out_plan items domains boxes o x s) planned k e lt in omega arith;
      reason = subst (λ (k : Con). IsReason k domains boxes (literals_of domains (out_plan items domains boxes o x s))) (sym t.is)
          (plan_reason (ElementDef o x items) domains boxes (out_plan items domains boxes o x s) g.wide planned (rw (different, out_different, index_different, others) refl)
          (λ left l. subst (λ (z : Ranges). none_picked z (box_of left x) items left ≡ true) (sym l.0)
          (subst (λ (z : Ranges). none_picked s z items left ≡ true) (sym l.1.0) (none_left items index domains left s g.wide valid l.1.1)))
          (plan_acts_head domains boxes (length boxes) (o, s) ((x, index) ∷ rest) v g.wide g.narrow planned member (boxes_kept items index boxes d v g.narrow (g.wide o) (in_domain domains boxes o v g t.out member) none)
          (within_itself index (g.narrow x), items_left items index domains boxes s g.wide g.narrow valid (λ k e lt. g.within _ (named k e lt)) (boxes_gone items index boxes d g.narrow (g.wide o)))));
    }

-- what the code computes
pub out_asked : (con : Con) (domains boxes : Boxes) (o x : ℕ) (items : List (ℤ × ℕ)) (v : ℤ) (d index rest : Ranges) (plan : Literals) → IsElement con domains boxes o x items → All (λ t. t.1 < length boxes) items → no_repeat (vars_of con) ≡ true →
    has (box_of boxes o) v ≡ true → some_offers items v (box_of boxes x) boxes ≡ false → d ≡ box_of domains o → index ≡ box_of boxes x → rest ≡ without_boxes items index boxes d → plan ≡ out_plan items domains boxes o x rest → IsOutPlanned con domains boxes plan
out_asked con domains boxes o x items v d index rest plan t named differ member none ed ex er ep =
    let all = without_boxes items (box_of boxes x) boxes (box_of domains o) in
    let is : rest ≡ all = er ∙ ap (λ (z : Ranges). without_boxes items z boxes d) ex ∙ ap (λ (z : Ranges). without_boxes items (box_of boxes x) boxes z) ed in
    subst (λ (p : Literals). IsOutPlanned con domains boxes p) (sym (ep ∙ ap (λ (z : Ranges). out_plan items domains boxes o x z) is)) (out_reason con domains boxes o x items v t named differ member none)
