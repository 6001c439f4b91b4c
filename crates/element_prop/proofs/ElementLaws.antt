-- What an element has to state of one item.
use Rattle.std.proofs.Common.{◌≡◌, ℕ, zero, suc, ◌<◌, Bool, true, false, not, ◌||◌, cond, List, [], ◌∷◌, ℤ, length, get_or, All, refl, arith, subst, sym, ap, ◌∙◌, inl, inr}
use Rattle.std.specs.Ordering.{int_eq}
use Rattle.std.proofs.lemmas.Bool.{and_parts, and_from, false_from_ne_true}
use Rattle.std.proofs.lemmas.Bool.Decides.{Decides-int_eq}
use Rattle.signed_clause.specs.Ranges.{Ranges, has, IsValid}
use Rattle.signed_clause.specs.SetAlgebra.{is_disjoint, is_within, less}
use Rattle.signed_clause.specs.Clauses.{Boxes, box_of}
use Rattle.signed_clause.proofs.RangeSteps.{IsValid-less}
use Rattle.ground_form.specs.declared.con.Con.{Con}
use Rattle.ground_form.specs.declared.con.Con.TheVariants.{ElementDef}
use Rattle.ground_form.specs.WellMade.{IsWellMadeCon, lacks_value, distinct_values}
use Rattle.ground_form.specs.Meaning.{term_vars}
use Rattle.ground_form.proofs.VarLists.{all_terms, all_tail}
use Rattle.rule_law.specs.Answers.{AreBoxesWithin}
use Rattle.box_rules.specs.Refuted.{none_picked, excluded}
use Rattle.rule_law.specs.Reasons.{Acts, IsReason}
use Rattle.rule_law.specs.Plans.{literals_of}
use Rattle.box_view.proofs.EndLaws.{single_has}
use Rattle.box_view.proofs.Leaving.{less_within, missing_within, less_disjoint, disjoint_rest, has_one, one_within, left_over, value_valid}
use Rattle.rule_law.proofs.PlanLaws.{ArePlanned, plan_reason, plan_acts_head, plan_acts_tail, plan_acts_over}
use Rattle.rule_law.proofs.FlagPlans.{AreGood, are_good, in_domain}
use Rattle.element_prop.specs.Elements.{HasToPick, pick_plan}
use Rattle.element_prop.proofs.Triples.{within_itself, in_other, all_differ}
use Rattle.element_prop.proofs.EqualityLaws.{fixed_has, lies_in_one}

-- ---- items

-- where no item has the index's only value, or the one that has it can't be out
none_here : (out : Ranges) (v : ℤ) (items : List (ℤ × ℕ)) (boxes : Boxes) → lacks_value v items ≡ true → none_picked out ((v, v) ∷ []) items boxes ≡ true
none_here out v [] boxes h = refl
none_here out v (t ∷ ts) boxes h =
    let P : Bool → Type 0 = λ b. int_eq t.0 v ≡ b → cond b false (lacks_value v ts) ≡ true → none_picked out ((v, v) ∷ []) (t ∷ ts) boxes ≡ true in
    (elim (int_eq t.0 v) as P [
      | true ↦ λ e k. absurd (let f : false ≡ true = k in grind arith)
      | false ↦ λ e k.
          let other : has ((v, v) ∷ []) t.0 ≡ false = single_has v t.0 ∙ turned v t.0 e in
          rw other (none_here out v ts boxes k)
    ]) refl h
  where
    turned : (a b : ℤ) → int_eq b a ≡ false → int_eq a b ≡ false
    turned a b k = false_from_ne_true (int_eq a b) (λ q. let e = (Decides-int_eq a b).0 q in let y = (Decides-int_eq b a).1 (sym e) in grind arith)

lacks_at : (v : ℤ) (items : List (ℤ × ℕ)) (i : ℕ) (d : ℤ × ℕ) → i < length items → lacks_value v items ≡ true → int_eq v (get_or items i d).0 ≡ false
lacks_at v [] i d lt h = absurd (omega arith)
lacks_at v (t ∷ ts) zero d lt h =
    false_from_ne_true (int_eq v t.0) (λ q. let e = (Decides-int_eq v t.0).0 q in let y = (Decides-int_eq t.0 v).1 (sym e) in grind arith)
lacks_at v (t ∷ ts) (suc i) d lt h =
    let P : Bool → Type 0 = λ b. cond b false (lacks_value v ts) ≡ true → lacks_value v ts ≡ true in
    let more : lacks_value v ts ≡ true = (elim (int_eq t.0 v) as P [ true ↦ λ k. absurd (let f : false ≡ true = k in grind arith) | false ↦ λ k. k ]) h in
    lacks_at v ts i d (omega arith) more

pub only_here : (out : Ranges) (items : List (ℤ × ℕ)) (i : ℕ) (d : ℤ × ℕ) (boxes : Boxes) → i < length items → distinct_values items ≡ true → is_disjoint (box_of boxes (get_or items i d).1) out ≡ true →
    none_picked out (((get_or items i d).0, (get_or items i d).0) ∷ []) items boxes ≡ true
only_here out [] i d boxes lt h m = absurd (omega arith)
only_here out (t ∷ ts) zero d boxes lt h m =
    let parts = and_parts (lacks_value t.0 ts) (distinct_values ts) h in
    and_from (not (has ((t.0, t.0) ∷ []) t.0) || is_disjoint (box_of boxes t.1) out) (none_picked out ((t.0, t.0) ∷ []) ts boxes) (either_true (not (has ((t.0, t.0) ∷ []) t.0)) (is_disjoint (box_of boxes t.1) out) m) (none_here out t.0 ts boxes parts.0)
  where
    either_true : (a b : Bool) → b ≡ true → (a || b) ≡ true
    either_true a b k = grind arith
only_here out (t ∷ ts) (suc i) d boxes lt h m =
    let parts = and_parts (lacks_value t.0 ts) (distinct_values ts) h in
    let v = (get_or ts i d).0 in
    let different = lacks_at t.0 ts i d (omega arith) parts.0 in
    let other : has ((v, v) ∷ []) t.0 ≡ false = single_has v t.0 ∙ turned v t.0 different in
    rw other (only_here out ts i d boxes (omega arith) parts.1 m)
  where
    turned : (a b : ℤ) → int_eq b a ≡ false → int_eq a b ≡ false
    turned a b k = false_from_ne_true (int_eq a b) (λ q. let e = (Decides-int_eq a b).0 q in let y = (Decides-int_eq b a).1 (sym e) in grind arith)

-- ---- the index has no value of a set, or a has a value that b's box has, or b is outside its box

pub record IsPick (domains boxes : Boxes) (x a b : ℕ) : Type 0 where
  pub good : AreGood domains boxes
  pub index : x < length boxes
  pub first : a < length boxes
  pub second : b < length boxes
  pub first_differs : a ≡ x → ⊥
  pub second_differs : b ≡ x → ⊥
  pub different : b ≡ a → ⊥

can_pick : (index box other : Ranges) (v : ℤ) → IsValid index → HasToPick index v box other → has index v ≡ true
can_pick index box other v f (inl h) = h.0
can_pick index box other v f (inr h) = fixed_has index v f h.0

-- the index is in the set, and the one box isn't inside the other
lies_acts : (domains boxes : Boxes) (x a b : ℕ) (s : Ranges) → IsPick domains boxes x a b → ArePlanned domains (length boxes) (pick_plan domains boxes x s a b) → is_within (box_of boxes x) s ≡ true → is_within (box_of boxes a) (box_of boxes b) ≡ false →
    Acts boxes (literals_of domains (pick_plan domains boxes x s a b))
lies_acts domains boxes x a b s t p h k =
    let g = t.good in let d = box_of domains a in let r = box_of boxes a in let o = box_of boxes b in
    plan_acts_tail domains boxes (length boxes) (x, s) ((a, less d o) ∷ (b, o) ∷ []) g.wide g.narrow p h
    (plan_acts_over domains boxes (length boxes) (a, less d o) ((b, o) ∷ []) g.wide g.narrow p.3
    (left_over d (less d o) r o (g.wide a) (IsValid-less d o (g.wide a) (g.narrow b)) (g.narrow a) (g.narrow b) (in_other d o (g.wide a) (g.narrow b)) k)
    (within_itself o (g.narrow b), tt))

pick_acts : (domains boxes : Boxes) (x a b : ℕ) (v : ℤ) → IsPick domains boxes x a b → IsValid ((v, v) ∷ []) → ArePlanned domains (length boxes) (pick_plan domains boxes x ((v, v) ∷ []) a b) → HasToPick (box_of boxes x) v (box_of boxes a) (box_of boxes b) →
    Acts boxes (literals_of domains (pick_plan domains boxes x ((v, v) ∷ []) a b))
pick_acts domains boxes x a b v t one p (inl h) =
    let g = t.good in let d = box_of domains a in let s = box_of boxes a in let o = box_of boxes b in
    plan_acts_head domains boxes (length boxes) (x, (v, v) ∷ []) ((a, less d o) ∷ (b, o) ∷ []) v g.wide g.narrow p h.0 (has_one v)
    (missing_within s d o (g.narrow a) (g.wide a) (g.narrow b) (g.within a t.first) h.1, (within_itself o (g.narrow b), tt))
pick_acts domains boxes x a b v t one p (inr h) = lies_acts domains boxes x a b ((v, v) ∷ []) t p (lies_in_one (box_of boxes x) v (t.good.narrow x) one h.0) h.1

pick_planned : (domains boxes : Boxes) (x a b : ℕ) (s : Ranges) → IsPick domains boxes x a b → IsValid s → is_within s (box_of domains x) ≡ true → ArePlanned domains (length boxes) (pick_plan domains boxes x s a b)
pick_planned domains boxes x a b s t f h =
    let g = t.good in let d = box_of domains a in let o = box_of boxes b in (
      t.index,
      f,
      h,
      (t.first, IsValid-less d o (g.wide a) (g.narrow b), less_within d o (g.wide a) (g.narrow b), (t.second, g.narrow b, g.within b t.second, tt)),
    )

pick_reason : (con : Con) (domains boxes : Boxes) (x a b : ℕ) (v : ℤ) → IsPick domains boxes x a b → HasToPick (box_of boxes x) v (box_of boxes a) (box_of boxes b) →
    ((rest : Boxes) → box_of rest x ≡ (v, v) ∷ [] → box_of rest a ≡ less (box_of domains a) (box_of boxes b) → box_of rest b ≡ box_of boxes b → excluded con rest ≡ true) →
    IsReason con domains boxes (literals_of domains (pick_plan domains boxes x ((v, v) ∷ []) a b))
pick_reason con domains boxes x a b v t h e =
    let g = t.good in let d = box_of domains a in let o = box_of boxes b in
    let can = can_pick (box_of boxes x) (box_of boxes a) o v (g.narrow x) h in
    let one = value_valid (box_of boxes x) v (g.narrow x) can in
    let planned = pick_planned domains boxes x a b ((v, v) ∷ []) t one (one_within (box_of domains x) v (g.wide x) one (in_domain domains boxes x v g t.index can)) in
    plan_reason con domains boxes (pick_plan domains boxes x ((v, v) ∷ []) a b) g.wide planned (all_differ x a b t.first_differs t.second_differs t.different) (λ rest l. e rest l.0 l.1.0 l.1.1.0) (pick_acts domains boxes x a b v t one planned h)

-- of the whole box of the index
pub lies_reason : (con : Con) (domains boxes : Boxes) (x a b : ℕ) → IsPick domains boxes x a b → is_within (box_of boxes a) (box_of boxes b) ≡ false →
    ((rest : Boxes) → box_of rest x ≡ box_of boxes x → box_of rest a ≡ less (box_of domains a) (box_of boxes b) → box_of rest b ≡ box_of boxes b → excluded con rest ≡ true) →
    IsReason con domains boxes (literals_of domains (pick_plan domains boxes x (box_of boxes x) a b))
lies_reason con domains boxes x a b t h e =
    let g = t.good in let index = box_of boxes x in
    let planned = pick_planned domains boxes x a b index t (g.narrow x) (g.within x t.index) in
    plan_reason con domains boxes (pick_plan domains boxes x index a b) g.wide planned (all_differ x a b t.first_differs t.second_differs t.different) (λ rest l. e rest l.0 l.1.0 l.1.1.0)
    (lies_acts domains boxes x a b index t planned (within_itself index (g.narrow x)) h)

-- ---- the two clauses of an item

pub record IsElement (con : Con) (domains boxes : Boxes) (o x : ℕ) (items : List (ℤ × ℕ)) : Type 0 where
  pub is : con ≡ ElementDef o x items
  pub good : AreGood domains boxes
  pub out : o < length boxes
  pub index : x < length boxes
  pub distinct : distinct_values items ≡ true

pub element : (con : Con) (domains boxes : Boxes) (o x : ℕ) (items : List (ℤ × ℕ)) → con ≡ ElementDef o x items → IsWellMadeCon domains con → AreBoxesWithin domains boxes → All (λ d. IsValid d) domains →
    IsElement con domains boxes o x items
element con domains boxes o x items e w b s =
    let m : IsWellMadeCon domains (ElementDef o x items) = subst (λ (k : Con). IsWellMadeCon domains k) e w in
    let size = b.size in
    let first = m.named 0 0 (omega arith) in
    let second = m.named 1 0 (omega arith) in
    record { is = e; good = are_good domains boxes s b; out = omega arith; index = omega arith; distinct = m.distinct }

pick_rule : (out index : Ranges) (items : List (ℤ × ℕ)) (i : ℕ) (d : ℤ × ℕ) (rest : Boxes) → i < length items → distinct_values items ≡ true → index ≡ ((get_or items i d).0, (get_or items i d).0) ∷ [] →
    is_disjoint (box_of rest (get_or items i d).1) out ≡ true → none_picked out index items rest ≡ true
pick_rule out index items i d rest lt h e m = subst (λ (s : Ranges). none_picked out s items rest ≡ true) (sym e) (only_here out items i d rest lt h m)

pub item_reason : (con : Con) (domains boxes : Boxes) (o x : ℕ) (items : List (ℤ × ℕ)) (i : ℕ) (d : ℤ × ℕ) → IsElement con domains boxes o x items → i < length items → (get_or items i d).1 < length domains →
    ((get_or items i d).1 ≡ x → ⊥) → (o ≡ x → ⊥) → (o ≡ (get_or items i d).1 → ⊥) → HasToPick (box_of boxes x) (get_or items i d).0 (box_of boxes (get_or items i d).1) (box_of boxes o) →
    IsReason con domains boxes (literals_of domains (pick_plan domains boxes x (((get_or items i d).0, (get_or items i d).0) ∷ []) (get_or items i d).1 o))
item_reason con domains boxes o x items i d t lt named yx ox oy h =
    let v = (get_or items i d).0 in let y = (get_or items i d).1 in
    let g = t.good in let size = g.size in
    let pick : IsPick domains boxes x y o = record { good = g; index = t.index; first = omega arith; second = t.out; first_differs = yx; second_differs = ox; different = oy } in
    subst (λ (k : Con). IsReason k domains boxes (literals_of domains (pick_plan domains boxes x ((v, v) ∷ []) y o))) (sym t.is)
    (pick_reason (ElementDef o x items) domains boxes x y o v pick h (λ rest e f k.
    pick_rule (box_of rest o) (box_of rest x) items i d rest lt t.distinct e
    (ap (λ (z : Ranges). is_disjoint z (box_of rest o)) f ∙ ap (λ (z : Ranges). is_disjoint (less (box_of domains y) (box_of boxes o)) z) k ∙ less_disjoint (box_of domains y) (box_of boxes o) (g.wide y) (g.narrow o))))

pub out_reason : (con : Con) (domains boxes : Boxes) (o x : ℕ) (items : List (ℤ × ℕ)) (i : ℕ) (d : ℤ × ℕ) → IsElement con domains boxes o x items → i < length items → (get_or items i d).1 < length domains →
    ((get_or items i d).1 ≡ x → ⊥) → (o ≡ x → ⊥) → (o ≡ (get_or items i d).1 → ⊥) → HasToPick (box_of boxes x) (get_or items i d).0 (box_of boxes o) (box_of boxes (get_or items i d).1) →
    IsReason con domains boxes (literals_of domains (pick_plan domains boxes x (((get_or items i d).0, (get_or items i d).0) ∷ []) o (get_or items i d).1))
out_reason con domains boxes o x items i d t lt named yx ox oy h =
    let v = (get_or items i d).0 in let y = (get_or items i d).1 in
    let g = t.good in let size = g.size in
    let pick : IsPick domains boxes x o y = record { good = g; index = t.index; first = t.out; second = omega arith; first_differs = ox; second_differs = yx; different = λ e. oy (sym e) } in
    subst (λ (k : Con). IsReason k domains boxes (literals_of domains (pick_plan domains boxes x ((v, v) ∷ []) o y))) (sym t.is)
    (pick_reason (ElementDef o x items) domains boxes x o y v pick h (λ rest e f k.
    pick_rule (box_of rest o) (box_of rest x) items i d rest lt t.distinct e
    (ap (λ (z : Ranges). is_disjoint z (box_of rest o)) k ∙ ap (λ (z : Ranges). is_disjoint (box_of boxes y) z) f ∙ disjoint_rest (box_of domains o) (box_of boxes y) (g.wide o) (g.narrow y))))

pub element_named : (con : Con) (domains : Boxes) (o x : ℕ) (items list : List (ℤ × ℕ)) → con ≡ ElementDef o x items → IsWellMadeCon domains con → list ≡ items → (x < length domains) × All (λ t. t.1 < length domains) list
element_named con domains o x items list e w i =
    let m : IsWellMadeCon domains (ElementDef o x items) = subst (λ (k : Con). IsWellMadeCon domains k) e w in (
      m.named 1 0 (omega arith),
      subst (λ (ts : List (ℤ × ℕ)). All (λ t. t.1 < length domains) ts) (sym i)
          (all_terms items (length domains) (all_tail x (term_vars items) (length domains) (all_tail o (x ∷ term_vars items) (length domains) m.named))),
    )
